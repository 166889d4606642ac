pub mod PiWords
