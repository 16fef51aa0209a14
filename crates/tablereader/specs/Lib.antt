pub mod Tables
pub mod Laying
pub mod InnerPromises
pub mod InnerRows
