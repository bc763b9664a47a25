pub mod OnLiterals
