-- How a path is walked: one look a component, but a mount name of the root of group 0 is passed without a look.
use Rattle.std.specs.Prelude.{ℕ, ◌==◌, ◌&&◌, Bool, cond, List, [], ◌∷◌, Option, None, Some}
use Rattle.std.specs.Str.{bytes_eq}
use Rattle.trace_book.specs.of_locus_ids.declared.ids.FileId.{FileId}
use Rattle.trace_book.specs.of_locus_ids.declared.ids.Kind.{Kind}
use Rattle.trace_book.specs.of_locus_ids.declared.ids.Kind.TheVariants.{File, Dir}
use Rattle.trace_book.specs.of_locus_ids.declared.config.Mount.{Mount}
use Rattle.trace_book.specs.of_locus_ids.declared.refusal.Refusal.{Refusal}
use Rattle.trace_book.specs.of_locus_ids.declared.refusal.Refusal.TheVariants.{NotDir}
use Rattle.trace_book.specs.declared.operation.What.TheVariants as what
use Rattle.trace_book.specs.declared.reply.Reply.TheVariants as reply
use Rattle.call_rules.specs.declared.answer.Answer.{Answer}
use Rattle.call_rules.specs.declared.answer.Answer.TheVariants.{Entered, Refused}
use Rattle.call_rules.specs.declared.want.Want.{Want}
use Rattle.call_rules.specs.declared.want.Want.TheVariants.{Look, Give, Never}

-- the root directory of a group
abbrev pub root_of : ℕ → FileId
root_of group = record { group = group; ino = 1 }

-- the group that is mounted under the name
abbrev pub mounted : List Mount → List ℕ → Option ℕ
mounted [] name = None
mounted (m ∷ ms) name = cond (bytes_eq m.name name) (Some m.group) (mounted ms name)

abbrev pub is_first_root : FileId → Bool
is_first_root dir = (dir.group == 0) && (dir.ino == 1)

-- only the root of group 0 has mounts
abbrev pub mounted_in : List Mount → FileId → List ℕ → Option ℕ
mounted_in mounts dir name = cond (is_first_root dir) (mounted mounts name) None

-- where a walk has come: it asks for a component, is refused, or is there with the answers that are left
pub data Walked : Type 0 where
  Asks : FileId → List ℕ → Walked
  Fails : Refusal → Walked
  There : FileId → Kind → List Answer → Walked
  Strays : Walked

-- one component of a walk
abbrev pub passes : (FileId → Kind → List Answer → Walked) → FileId → List ℕ → Option ℕ → List Answer → Walked
passes further dir c (Some group) answers = further (root_of group) Dir answers
passes further dir c None [] = Asks dir c
passes further dir c None (Entered ino kind ∷ rest) = further (record { group = dir.group; ino = ino }) kind rest
passes further dir c None (Refused why ∷ rest) = Fails why
passes further dir c None (_ ∷ rest) = Strays

-- a walk from a file along components. Only a directory has components after it; `reached` is the component that led here.
abbrev pub walk : List Mount → List (List ℕ) → List ℕ → FileId → Kind → List Answer → Walked
walk mounts [] reached at kind answers = There at kind answers
walk mounts (c ∷ cs) reached at File answers = Fails (NotDir reached)
walk mounts (c ∷ cs) reached at Dir answers = passes (walk mounts cs c) at c (mounted_in mounts at c) answers

-- a walk from the root of group 0, and what comes after it
abbrev pub walked : List Mount → List (List ℕ) → List Answer → (FileId → Kind → List Answer → Want) → Want
walked mounts path answers after = go (walk mounts path [] (root_of 0) Dir answers)
  where
    go : Walked → Want
    go (Asks dir c) = Look dir (what.Name c)
    go (Fails why) = Give (reply.No why)
    go (There at kind rest) = after at kind rest
    go Strays = Never
