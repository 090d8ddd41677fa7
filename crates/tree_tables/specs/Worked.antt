-- An instance of which this has become.
use Rattle.tree_model.specs.of_file_effects.declared.work.Work.{Work}
use Rattle.tree_model.specs.declared.instance.Instance.{Instance}

abbrev pub worked : Work → Instance → Instance
worked w x = record x { work = w }
