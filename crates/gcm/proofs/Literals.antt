-- What examples compute with: definitions on literals, and what the test cases share.
pub mod OnLiterals
pub mod TestCases
