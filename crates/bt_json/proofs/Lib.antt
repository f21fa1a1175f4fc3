pub mod EscapeLaws
pub mod FieldLaws
pub mod MemberLaws
pub mod Steps
