mod NotTaken
