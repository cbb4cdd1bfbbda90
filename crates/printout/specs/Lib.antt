-- What a reader must believe: Text (the printer's text) and Printed (what printing leaves in the output). Mirror has what the code computes.
pub mod Text
pub mod Printed
pub mod Mirror
