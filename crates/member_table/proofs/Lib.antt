pub mod SameMembers
