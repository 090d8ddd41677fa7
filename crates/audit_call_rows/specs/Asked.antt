-- What a call asks where these are the members of its epoch, or where it was accepted in none.
use Rattle.std.specs.Prelude.{ℕ, ◌≡◌, ◌≤◌, ◌+◌, ◌-◌, ◌==◌, Bool, false, ◌&&◌, nat_le, nat_lt, List, length, filter, take, Option, None, Some}
use Rattle.std.specs.List.{find, list_all}
use Rattle.std.specs.Option.{option_map}
use Rattle.locus_ids.specs.declared.config.Config.{Config}
use Rattle.locus_ids.specs.declared.sites.Members.{Members}
use Rattle.locus_ids.specs.declared.ids.FileId.{FileId}
use Rattle.locus_ids.specs.declared.ids.EpochId.{EpochId}
use Rattle.locus_ids.specs.declared.ids.Mode.{Mode}
use Rattle.trace_book.specs.declared.operation.What.{What}
use Rattle.call_rules.specs.declared.answer.Answer.{Answer}
use Rattle.call_rules.specs.declared.want.Want.{Want}
use Rattle.call_rules.specs.declared.want.Want.TheVariants as want
use Rattle.call_rules.specs.Scripts.{wants}
use Rattle.tree_model.specs.Epochs.{is_in}
use Rattle.tree_model.specs.Working.{list_of}
use Rattle.lawful_trace.specs.TreeRows.{is_open_of}
use Rattle.promises.specs.Past.{Past, CallSoFar, Epoch}
use Rattle.promises.specs.Same.{same_request}
use Rattle.audit_tree.specs.Parts.{sync_in}

-- some member has a pack of the group
abbrev pub is_packed_in : Config → Option Members → ℕ → Bool
is_packed_in c None group = false
is_packed_in c (Some members) group = nat_lt 0 (length (sync_in c members group))

-- what the script of the call asks next after these answers, or its reply
abbrev pub asks_in : Config → Option Members → CallSoFar → List Answer → Want
asks_in c members k answers = wants c.mounts (is_packed_in c members) k.free k.words k.begins answers

-- The past has one epoch at most of the name that the call's has, with these members.
pub record HasMembers (p : Past) (k : CallSoFar) (members : Option Members) : Type 0 where
  pub are : members ≡ option_map (λ (t : Epoch). t.members) (find (λ (t : Epoch). is_in k.epoch t.id) p.epochs)
  pub once : length (filter (λ (t : Epoch). is_in k.epoch t.id) p.epochs) ≤ 1

-- the look is what the call asks by the request of this number, its last or its next
abbrev pub asks_look_in : Config → Option Members → ℕ → FileId → What → CallSoFar → Bool
asks_look_in c members request f w k = nat_lt 0 request && (nat_le (length k.answers) request && (nat_le request (length k.answers + 1) && same_request (asks_in c members k (take (request - 1) k.answers)) (want.Look f w)))

-- the open is what the call asks next, and has the number of that request
abbrev pub asks_open_in : Config → Option Members → ℕ → Mode → FileId → CallSoFar → Bool
asks_open_in c members request m f k = (request == length k.answers + 1) && is_open_of m f (asks_in c members k k.answers)

-- the site that is in this epoch now is still in the one in which it accepted the call, or was in none
abbrev pub is_home_at : Option EpochId → CallSoFar → Bool
is_home_at now k = list_all (is_in now) (list_of k.epoch)
