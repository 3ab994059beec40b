mod Serving
mod Guarding
mod Refusing
