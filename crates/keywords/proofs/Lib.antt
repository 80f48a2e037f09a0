pub mod Agree
pub mod FlatLaws
pub mod RefusalLaws
pub mod TableLaws
pub mod Worked
