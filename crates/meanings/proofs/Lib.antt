pub mod MeaningsEnd
