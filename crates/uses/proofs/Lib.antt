mod Fronts
mod Lanes
mod QueueFronts
mod StandingLemmas
mod StepLemmas
mod StoryLemmas
