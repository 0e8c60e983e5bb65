pub mod OneMore
mod EachOwner
