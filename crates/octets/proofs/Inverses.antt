-- A number and its bytes or block undo one another: the laws over base and width, at those of the rules. Assumes nothing.
use lib.Dec.{lit<}
use Rattle.octets.specs.Inverse.{NumberOfBytes, BytesOfNumber, UnpadAfterPad, PadAfterUnpad}
use Rattle.octets.proofs.Digits.{value-digits_fit, digits_value}
use Rattle.octets.proofs.Pads.{unpad-pad-fit, pad-unpad}

pub number_of_bytes : NumberOfBytes
number_of_bytes n x = value-digits_fit 256 n x (lit< tt)

pub bytes_of_number : BytesOfNumber
bytes_of_number s = digits_value s

pub unpad_after_pad : UnpadAfterPad
unpad_after_pad n x h = unpad-pad-fit n h x

pub pad_after_unpad : PadAfterUnpad
pad_after_unpad n block x h = pad-unpad n h block x
