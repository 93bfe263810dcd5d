pub mod AskNumbers
