mod Late
mod Notified
