-- A past of which some tables are known alone, and whose calls have names of their own.
use Rattle.std.specs.Prelude.{◌≤◌, List, [], filter, length, map}
use Rattle.locus_ids.specs.declared.ids.CallId.{CallId}
use Rattle.locus_ids.specs.declared.ids.FileId.{FileId}
use Rattle.commit_graph.specs.declared.history.Version.{Version}
use Rattle.commit_graph.specs.Grants.{Opener}
use Rattle.commit_graph.specs.Versions.{same_file}
use Rattle.promises.specs.Past.{Another, CallSoFar, Instance, Past, Site}
use Rattle.promises.specs.After.{is_id}
use Rattle.promises.specs.Tree.{opener_of}

-- a past of which the sites, the calls and the history are known alone
abbrev pub past_of : List Site → List CallSoFar → List Version → Past
past_of sites calls h = record { sites = sites; epochs = []; calls = calls; history = h; files = []; last = Another }

abbrev pub HaveOwnIds : List CallSoFar → Type 0
HaveOwnIds calls = (id : CallId) → length (filter (is_id id) calls) ≤ 1

-- those of these open instances that are of the file, as they exclude others
abbrev pub openers_among : List Instance → FileId → List Opener
openers_among xs f = map opener_of (filter (λ (x : Instance). same_file x.grant.file f) xs)
