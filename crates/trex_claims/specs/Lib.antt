pub mod Views
pub mod Board
pub mod Moves
pub mod Boards
