mod FirstLine
pub mod ScriptWords
pub mod ScriptBytes
pub mod ScriptFields
pub mod ScriptLines
pub mod ScriptText
pub mod ScriptSpoken
pub mod ScriptBounds
mod Fronts
mod Misfits
mod Digits
mod SameWords
pub mod RowsByName
