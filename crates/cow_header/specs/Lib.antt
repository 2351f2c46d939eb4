pub mod HeaderText
