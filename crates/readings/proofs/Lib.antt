mod Kept
mod Places
