-- What makes a file: open the directory, probe the name, make the file, write it if it begins with some bytes, close it, insert the
-- entry, close the directory. create and mkdir make empty ones.
use Rattle.std.specs.Prelude.{ℕ, List, [], ◌∷◌, Option}
use Rattle.trace_book.specs.of_locus_ids.declared.ids.FileId.{FileId}
use Rattle.trace_book.specs.of_locus_ids.declared.ids.Serial.{Serial}
use Rattle.trace_book.specs.of_locus_ids.declared.ids.Kind.{Kind}
use Rattle.trace_book.specs.of_locus_ids.declared.ids.Kind.TheVariants.{File, Dir}
use Rattle.trace_book.specs.of_locus_ids.declared.sites.Sites.{Sites}
use Rattle.trace_book.specs.of_locus_ids.declared.config.Mount.{Mount}
use Rattle.trace_book.specs.of_locus_ids.declared.refusal.Refusal.TheVariants.{NotDir}
use Rattle.trace_book.specs.declared.call.OpenMode.TheVariants as how
use Rattle.trace_book.specs.declared.operation.Op.TheVariants as op
use Rattle.trace_book.specs.declared.reply.Reply.{Reply}
use Rattle.trace_book.specs.declared.reply.Reply.TheVariants as reply
use Rattle.trace_book.specs.Names.{components, but_last, last_of}
use Rattle.call_rules.specs.declared.answer.Answer.{Answer}
use Rattle.call_rules.specs.declared.answer.Answer.TheVariants.{Opened, Did, Ended, Refused}
use Rattle.call_rules.specs.declared.want.Want.{Want}
use Rattle.call_rules.specs.declared.want.Want.TheVariants.{Open, Make, Do, Close, Give, Never}
use Rattle.call_rules.specs.Walks.{walked}
use Rattle.call_rules.specs.Closing.{Unchanged, give_up, close_all}

-- the entry is inserted, the directory is closed, and the reply tells of the new file by its number
abbrev pub after_insert : Serial → List ℕ → Kind → ℕ → Reply → List Answer → Want
after_insert p name kind ino told [] = Do p (op.Insert name ino kind)
after_insert p name kind ino told (Did o ∷ rest) = close_all (p ∷ []) told rest
after_insert p name kind ino told (Refused why ∷ rest) = give_up (Unchanged p ∷ []) why rest
after_insert p name kind ino told (_ ∷ rest) = Never

abbrev pub after_make : Serial → List ℕ → Kind → Serial → ℕ → Reply → List Answer → Want
after_make p name kind made ino told [] = Close made
after_make p name kind made ino told (Ended stamp ∷ rest) = after_insert p name kind ino told rest
after_make p name kind made ino told (Refused why ∷ rest) = give_up (Unchanged p ∷ []) why rest
after_make p name kind made ino told (_ ∷ rest) = Never

-- the new file is written first, where it begins with some bytes
abbrev pub fills : Serial → List ℕ → Kind → List ℕ → Serial → ℕ → Reply → List Answer → Want
fills p name kind [] made ino told answers = after_make p name kind made ino told answers
fills p name kind (b ∷ bs) made ino told [] = Do made (op.Write 0 (b ∷ bs))
fills p name kind (b ∷ bs) made ino told (Did o ∷ rest) = after_make p name kind made ino told rest
fills p name kind (b ∷ bs) made ino told (Refused why ∷ rest) = give_up (Unchanged made ∷ Unchanged p ∷ []) why rest
fills p name kind (b ∷ bs) made ino told (_ ∷ rest) = Never

abbrev pub after_probe : Serial → ℕ → List ℕ → Kind → Option Sites → List ℕ → (ℕ → Reply) → List Answer → Want
after_probe p group name kind sites bytes tells [] = Make group kind sites
after_probe p group name kind sites bytes tells (Opened made ino ∷ rest) = fills p name kind bytes made ino (tells ino) rest
after_probe p group name kind sites bytes tells (Refused why ∷ rest) = give_up (Unchanged p ∷ []) why rest
after_probe p group name kind sites bytes tells (_ ∷ rest) = Never

-- a new file that begins with these bytes, of which the reply tells so
abbrev pub probes : Serial → ℕ → List ℕ → Kind → Option Sites → List ℕ → (ℕ → Reply) → List Answer → Want
probes p group name kind sites bytes tells [] = Do p (op.Probe name)
probes p group name kind sites bytes tells (Did o ∷ rest) = after_probe p group name kind sites bytes tells rest
probes p group name kind sites bytes tells (Refused why ∷ rest) = give_up (Unchanged p ∷ []) why rest
probes p group name kind sites bytes tells (_ ∷ rest) = Never

-- the directory that a walk has reached is opened for a change of its entries
abbrev pub opens_dir : List ℕ → (Serial → List Answer → Want) → FileId → Kind → List Answer → Want
opens_dir reached next dir File answers = Give (reply.No (NotDir reached))
opens_dir reached next dir Dir [] = Open dir how.Write
opens_dir reached next dir Dir (Opened p ino ∷ rest) = next p rest
opens_dir reached next dir Dir (Refused why ∷ rest) = Give (reply.No why)
opens_dir reached next dir Dir (_ ∷ rest) = Never

-- a walk of all components but the last, and a change of the directory that it reaches; `next` has the directory's group
abbrev pub changes_dir : List Mount → List ℕ → (ℕ → Serial → List Answer → Want) → List Answer → Want
changes_dir mounts path next answers = walked mounts (but_last (components path)) answers
    (λ dir kind rest. opens_dir (last_of (but_last (components path))) (next dir.group) dir kind rest)

abbrev pub make_wants : List Mount → List ℕ → Kind → Option Sites → List Answer → Want
make_wants mounts path kind sites answers = changes_dir mounts path (λ group p rest. probes p group (last_of (components path)) kind sites [] reply.Made rest) answers
