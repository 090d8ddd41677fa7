mod FirstRight
mod PartedRight
mod FlaggedRight
mod StoppedRight
mod TreeSamples
