pub mod CharacterLaws
