pub mod Document
pub mod Draft
pub mod Examples
pub mod Forms
pub mod Refusals
pub mod Upgrade
pub mod Words
pub mod inner
