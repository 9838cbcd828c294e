pub mod Alike
pub mod PutLaws
pub mod OnlyThere
pub mod Paths
pub mod StaysWhole
pub mod ValueForms
