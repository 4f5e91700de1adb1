mod Answered
mod Causes
mod Forms
mod Gained
mod Lengthened
mod Scanning
mod Taking
