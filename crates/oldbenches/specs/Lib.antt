pub mod OldKinds
