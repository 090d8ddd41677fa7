-- What stands of the past along a lawful trace of the files that are made: each version that a site has, that is known in an
-- epoch or that an open instance committed is of a file whose making is there.
use Rattle.std.specs.Prelude.{◌≡◌, ◌==◌, Bool, true, not, ◌&&◌, ◌||◌, List}
use Rattle.std.specs.List.{list_any, list_all}
use Rattle.std.specs.Option.{is_none}
use Rattle.locus_ids.specs.declared.ids.FileId.{FileId}
use Rattle.commit_graph.specs.Versions.{same_file}
use Rattle.promises.specs.Past.{CallSoFar, Copy, Epoch, Instance, Making, Past, Site}
use Rattle.promises.specs.After.{is_id}

abbrev pub is_made : List Making → FileId → Bool
is_made files f = list_any (λ (m : Making). same_file m.file f) files

abbrev pub are_made : List Making → List Copy → Bool
are_made files copies = list_all (λ (v : Copy). is_made files v.file) copies

-- its file is new, with nothing committed, and no root; or it is made
abbrev pub is_sound : List Making → Instance → Bool
is_sound files x = (is_none x.work.committed && not (x.grant.file.ino == 1)) || is_made files x.grant.file

-- its call was accepted
abbrev pub is_called : List CallSoFar → Instance → Bool
is_called calls x = list_any (is_id x.grant.call) calls

pub record AreMade (p : Past) : Type 0 where
  pub held : list_all (λ (s : Site). are_made p.files s.held) p.sites ≡ true
  pub known : list_all (λ (t : Epoch). are_made p.files t.known) p.epochs ≡ true
  pub opened : list_all (λ (t : Epoch). list_all (is_sound p.files) t.opened) p.epochs ≡ true
  pub called : list_all (λ (t : Epoch). list_all (is_called p.calls) t.opened) p.epochs ≡ true
