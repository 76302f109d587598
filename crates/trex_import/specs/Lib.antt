pub mod Imported
pub mod Document
pub mod Fit
pub mod Drafts
pub mod Answers
