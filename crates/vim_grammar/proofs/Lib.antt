pub mod TokenLaws
