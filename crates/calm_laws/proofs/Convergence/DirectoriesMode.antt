-- What a mend is granted is granted to mend its directory: its script asks no other open.
use Rattle.std.proofs.Common.{◌≡◌, ℕ, Bool, true, false, cond, List, [], ◌∷◌, Option, Some, None, refl, sym, ◌∙◌, ap, subst, inl, inr}
use Rattle.role_steps.proofs.of_plain_facts.Tests.{true_false}
use Rattle.role_steps.proofs.of_plain_facts.Options.{some_same}
use Rattle.locus_ids.specs.declared.config.Config.{Config}
use Rattle.locus_ids.specs.declared.ids.CallId.{CallId}
use Rattle.locus_ids.specs.declared.ids.EpochId.{EpochId}
use Rattle.locus_ids.specs.declared.ids.FileId.{FileId}
use Rattle.locus_ids.specs.declared.ids.Mode.{Mode}
use Rattle.locus_ids.specs.declared.ids.Mode.TheVariants as mode
use Rattle.locus_ids.specs.declared.ids.Serial.{Serial}
use Rattle.locus_ids.specs.declared.ids.Stamp.{Stamp}
use Rattle.locus_ids.specs.declared.refusal.Refusal.{Refusal}
use Rattle.locus_ids.specs.declared.refusal.Refusal.TheVariants as refusal
use Rattle.trace_book.specs.declared.call.Call.{Call}
use Rattle.trace_book.specs.declared.call.Call.TheVariants as call
use Rattle.trace_book.specs.declared.descriptor.Beginning.TheVariants as begins
use Rattle.trace_book.specs.declared.descriptor.Descriptor.{Descriptor}
use Rattle.trace_book.specs.declared.reply.Reply.{Reply}
use Rattle.trace_book.specs.declared.reply.Reply.TheVariants as reply
use Rattle.call_rules.specs.Closing.{Unchanged, gives, give_up}
use Rattle.call_rules.specs.Mending.{after_mend, brings, mend_wants}
use Rattle.call_rules.specs.Opening.{close_wants}
use Rattle.call_rules.specs.Scripts.{wants, where_packed}
use Rattle.call_rules.specs.declared.answer.Answer.{Answer}
use Rattle.call_rules.specs.declared.answer.Answer.TheVariants as answer
use Rattle.call_rules.specs.declared.want.Want.{Want}
use Rattle.call_rules.specs.declared.want.Want.TheVariants as want
use Rattle.the_run.specs.Worlds.{Line}
use Rattle.tree_model.specs.Calls.{opening_of}
use Rattle.tree_model.specs.declared.accepted.Waiting.{Waiting}
use Rattle.lawful_trace.specs.Progress.{is_packed_in}
use Rattle.lawful_trace.specs.TreeRows.{IsCallIn, is_open_of}
use Rattle.lawful_trace.specs.Tables.{begun}
use Rattle.tree_laws.specs.Following.{IsFollowed}
use Rattle.tree_laws.specs.Past.{WasGranted}
use Rattle.tree_laws.specs.Printed.{entries}
use Rattle.tree_laws.proofs.Orders.Standing.{same_file_eq}
use Rattle.store_laws.proofs.ScriptNaming.{script_by, BeganOpening, BeganSo, openers_begin}
use Rattle.store_laws.proofs.OneTree.RemovePlaced.{GrantedSo, Placed, granted_placed}
use Rattle.store_laws.proofs.Holdings.MendMends.{IsMendCall}
use Rattle.tree_laws.specs.Orders.Joining.{PacksAreOfSites}
use Rattle.calm_laws.proofs.Convergence.DirectoriesOpeners.{opening_there}

-- ---- the script ----

-- it opens nothing but this, to mend
abbrev IsNoOther : FileId → Want → Type 0
IsNoOther file (want.Open f how) = ⊥
IsNoOther file (want.OpenToMend f) = f ≡ file
IsNoOther file (want.Make g k sites) = ⊥
IsNoOther file _ = Unit {0}

record Mends (m : Mode) (f file : FileId) : Type 0 where
  mode_is : m ≡ mode.Mend
  file_is : file ≡ f

only_mends : (m : Mode) (f file : FileId) (w : Want) → IsNoOther file w → is_open_of m f w ≡ true → Mends m f file
only_mends mode.Mend f file (want.OpenToMend g) h e = record { mode_is = refl; file_is = sym h ∙ same_file_eq g f e }
only_mends m f file (want.Open g how) h e = absurd h
only_mends m f file (want.Make g k sites) h e = absurd h
only_mends m f file w h e = absurd (true_false (sym e))

gives_none : (file : FileId) (r : Reply) (xs : List Answer) → IsNoOther file (gives r xs)
gives_none file r [] = tt
gives_none file r (x ∷ xs) = tt

gives_up_none : (file : FileId) (i : Serial) (why : Refusal) (xs : List Answer) → IsNoOther file (give_up (Unchanged i ∷ []) why xs)
gives_up_none file i why [] = tt
gives_up_none file i why (answer.Ended stamp ∷ rest) = gives_none file _ rest
gives_up_none file i why (answer.Refused other ∷ rest) = gives_none file _ rest
gives_up_none file i why (_ ∷ rest) = tt

close_none : (file : FileId) (i : Serial) (xs : List Answer) → IsNoOther file (close_wants i xs)
close_none file i [] = tt
close_none file i (answer.Ended stamp ∷ []) = tt
close_none file i (answer.Refused why ∷ []) = tt
close_none file i (_ ∷ rest) = tt

after_none : (file : FileId) (i : Serial) (xs : List Answer) → IsNoOther file (after_mend i xs)
after_none file i [] = tt
after_none file i (answer.Did o ∷ rest) = close_none file i rest
after_none file i (answer.Refused why ∷ rest) = gives_up_none file i why rest
after_none file i (_ ∷ rest) = tt

brings_none : (i : Serial) (f : FileId) (stamps : List Stamp) (xs : List Answer) → IsNoOther f (brings i f stamps xs)
brings_none i f [] xs = after_none f i xs
brings_none i f (s ∷ ss) [] = tt
brings_none i f (s ∷ ss) (answer.Brought ∷ rest) = brings_none i f ss rest
brings_none i f (s ∷ ss) (answer.Refused why ∷ rest) = gives_up_none f i why rest
brings_none i f (s ∷ ss) (_ ∷ rest) = tt

mend_none : (f : FileId) (xs : List Answer) → IsNoOther f (mend_wants f xs)
mend_none f [] = refl
mend_none f (answer.Merging i kept ∷ rest) = brings_none i f kept rest
mend_none f (answer.Refused why ∷ []) = tt
mend_none f (_ ∷ rest) = tt

cond_none : (file : FileId) (b : Bool) (v w : Want) → IsNoOther file v → IsNoOther file w → IsNoOther file (cond b v w)
cond_none file true v w h k = h
cond_none file false v w h k = k

packed_none : (file : FileId) (p : ℕ → Bool) (w : Want) → IsNoOther file w → IsNoOther file (where_packed p w)
packed_none file p (want.Look f what) h = cond_none file (p f.group) (want.Look f what) (want.Give (reply.No refusal.NoStorage)) tt tt
packed_none file p (want.Open f how) h = absurd h
packed_none file p (want.OpenToMend f) h = cond_none file (p f.group) (want.OpenToMend f) (want.Give (reply.No refusal.NoStorage)) h tt
packed_none file p (want.Make g k sites) h = absurd h
packed_none file p _ h = tt

-- ---- a grant ----

pub record IsToMend (m : Mode) (f : FileId) (words : Call) : Type 0 where
  pub mode_is : m ≡ mode.Mend
  pub words_are : words ≡ call.Mend f

pub mend_mode : (c : Config) (packs : PacksAreOfSites c) (t : List Line) (h : IsFollowed c t) (e : EpochId) (d : CallId) (request : ℕ) (i : Serial) (m : Mode) (f : FileId) (stamp : Option Stamp) (ss : ℕ) → (was : WasGranted t e d request i m f stamp ss) → (q : IsCallIn (entries t) e d) → IsMendCall q.accepted.words → IsToMend m f q.accepted.words
mend_mode c packs t h e d request i m f stamp ss was q mends = over q.accepted.words refl mends
  where
    placed : Placed c t d (GrantedSo m f i)
    placed = granted_placed c t h e d request i m f stamp ss was

    opens : (x : Descriptor) × (opening_of (entries t) d ≡ Some x)
    opens = opening_there t e d request i m f stamp ss was

    starts : BeganSo t d
    starts = openers_begin c t h d opens.0 opens.1

    -- a mend is no read
    apart : (words : Call) → IsMendCall words → (fd at len : ℕ) → words ≡ call.Read fd at len → ⊥
    apart words k fd at len is = subst IsMendCall is k

    walks : begun (entries t) d ≡ Some (begins.Walks d)
    walks = by starts.opening
      where
        by : BeganOpening t d starts.caller.words → begun (entries t) d ≡ Some (begins.Walks d)
        by (inl k) = k
        by (inr r) = absurd (apart q.accepted.words mends r.2.fd r.2.at r.2.len (ap (λ (y : Waiting). y.words) (some_same q.accepted starts.caller (sym q.named ∙ starts.named)) ∙ r.2.words_are))

    asked : is_open_of m f (wants c.mounts (is_packed_in c (entries t) q.accepted.epoch) None q.accepted.words (begins.Walks d) placed.before) ≡ true
    asked = ap (is_open_of m f) (sym (script_by c t d q.accepted (begins.Walks d) None placed.before q.named walks) ∙ placed.script_is) ∙ placed.fits.0

    over : (words : Call) → q.accepted.words ≡ words → IsMendCall words → IsToMend m f q.accepted.words
    over (call.Mend g) is k = record { mode_is = z.mode_is; words_are = is ∙ ap call.Mend z.file_is }
      where
        z : Mends m f g
        z = only_mends m f g (wants c.mounts (is_packed_in c (entries t) q.accepted.epoch) None (call.Mend g) (begins.Walks d) placed.before)
            (packed_none g (is_packed_in c (entries t) q.accepted.epoch) _ (mend_none g placed.before))
            (subst (λ (y : Call). is_open_of m f (wants c.mounts (is_packed_in c (entries t) q.accepted.epoch) None y (begins.Walks d) placed.before) ≡ true) is asked)
    over _ is k = absurd k
