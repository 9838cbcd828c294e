mod Bodies
mod Updated
