mod NoneLater
mod TestPlaces
