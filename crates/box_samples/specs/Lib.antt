pub mod Judged
pub mod MailUnlinked
pub mod Mails
pub mod Wrong
