-- What the calls that made files said, as a list.
use Rattle.std.specs.Prelude.{List, Bool}
use Rattle.std.specs.List.{list_any}
use Rattle.locus_ids.specs.declared.ids.FileId.{FileId}
use Rattle.locus_ids.specs.declared.ids.Kind.TheVariants.{File}
use Rattle.commit_graph.specs.Versions.{same_file}
use Rattle.tree_model.specs.Packs.{no_sites}
use Rattle.promises.specs.Past.{Making, first_or}

-- what the call that made the file said; of one that none has made, a plain file for no site
abbrev pub said_of : List Making → FileId → Making
said_of files f = first_or (record { file = f; kind = File; set = no_sites }) (λ (m : Making). same_file m.file f) files

-- a call has made the file
abbrev pub is_made : List Making → FileId → Bool
is_made files f = list_any (λ (m : Making). same_file m.file f) files
