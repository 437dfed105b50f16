mod Agree
mod Causes
mod OneReason
mod Stopping
