-- `judging::is_principal` meets its contract.
-- Assumes nothing.
use Rattle.judging.proofs.PrincipalTests.{none_named, nobody-named, named-with-quota, tenant_named}
use Rattle.judging.proofs.is_principal.Goals as goal

pub returns-then-principal-eq0 : goal.returns-then-principal-eq0
returns-then-principal-eq0 c = none_named _ _ _ c.requires c.byte_at-principal.ensures c.if-principal-eq0.true

pub returns-then-principal-gt16 : goal.returns-then-principal-gt16
returns-then-principal-gt16 c =
    nobody-named _ _ _ c.requires c.byte_at-principal.ensures c.if-principal-eq0.false c.if-principal-gt16.true

pub returns-then-number16-ne0 : goal.returns-then-number16-ne0
returns-then-number16-ne0 c =
    named-with-quota _ _ _ c.requires c.byte_at-principal.ensures c.if-principal-eq0.false c.if-principal-gt16.false
    _ c.number16.ensures c.if-number16-ne0.true

pub returns : goal.returns
returns c =
    tenant_named _ _ _ c.requires c.byte_at-principal.ensures c.if-principal-eq0.false c.if-principal-gt16.false
    _ c.number16.ensures c.if-number16-ne0.false _ c.byte_at.ensures
