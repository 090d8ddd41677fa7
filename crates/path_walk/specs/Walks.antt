-- Where a walk in code has come, as the rules of calls say it.
use Rattle.call_rules.specs.Walks as rules
use Rattle.path_walk.specs.declared.walking.Walked.{Walked}
use Rattle.path_walk.specs.declared.walking.Walked.TheVariants.{Asks, Fails, There, Strays}

abbrev pub walked : Walked → rules.Walked
walked (Asks dir name) = rules.Asks dir name.now
walked (Fails why) = rules.Fails why
walked (There file kind answers) = rules.There file kind answers.now
walked Strays = rules.Strays
