-- Laws, from those of words and tables to those of the arguments' rules.
pub mod WordLaws
pub mod TableLaws
pub mod DueLaws
pub mod RuleLaws
pub mod DateLaws
pub mod CallsLaws
pub mod ArgumentLaws
