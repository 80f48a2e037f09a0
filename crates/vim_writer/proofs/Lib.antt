pub mod TokenLaws
pub mod WrittenLaws
pub mod RoomLaws
