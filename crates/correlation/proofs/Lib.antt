pub mod Lists
pub mod WindowLaws
