mod Fronts
mod Valid
