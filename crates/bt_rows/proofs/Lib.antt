mod Shown
mod FrontBytes
mod Pairs
mod Utf8
