mod Forms
mod Texts
mod Valid
