pub mod InnerMapLists
