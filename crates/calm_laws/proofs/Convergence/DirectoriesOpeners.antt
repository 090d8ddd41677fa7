-- Who has an instance in an epoch: a call that waits, or an open call, whose instance is of a file that is no directory.
use Rattle.std.proofs.Common.{◌≡◌, ℕ, ◌⊎◌, ◌≤◌, Bool, true, false, cond, List, [], ◌∷◌, ◌++◌, append-nil, Option, Some, None, refl, sym, ◌∙◌, ap, subst, inl, inr}
use Rattle.role_steps.proofs.of_plain_facts.Options.{none_some, some_same}
use Rattle.role_steps.proofs.of_plain_facts.Tests.{true_false}
use Rattle.locus_ids.specs.declared.config.Config.{Config}
use Rattle.locus_ids.specs.declared.ids.CallId.{CallId}
use Rattle.locus_ids.specs.declared.ids.EpochId.{EpochId}
use Rattle.locus_ids.specs.declared.ids.FileId.{FileId}
use Rattle.locus_ids.specs.declared.ids.Kind.{Kind}
use Rattle.locus_ids.specs.declared.ids.Kind.TheVariants as kind
use Rattle.locus_ids.specs.declared.ids.Mode.{Mode}
use Rattle.locus_ids.specs.declared.ids.Mode.TheVariants as mode
use Rattle.locus_ids.specs.declared.ids.Serial.{Serial}
use Rattle.locus_ids.specs.declared.ids.Stamp.{Stamp}
use Rattle.trace_book.specs.declared.call.Call.{Call}
use Rattle.trace_book.specs.declared.call.Call.TheVariants as call
use Rattle.trace_book.specs.declared.call.OpenMode.TheVariants as how
use Rattle.trace_book.specs.declared.call.OpenMode.{OpenMode}
use Rattle.trace_book.specs.declared.descriptor.Beginning.{Beginning}
use Rattle.trace_book.specs.declared.descriptor.Beginning.TheVariants as begins
use Rattle.trace_book.specs.declared.descriptor.Descriptor.{Descriptor}
use Rattle.trace_book.specs.declared.descriptor.OneVersion.{OneVersion}
use Rattle.trace_book.specs.declared.record.Record.TheVariants as says
use Rattle.trace_book.specs.Same.{same_call}
use Rattle.call_rules.specs.Scripts.{wants}
use Rattle.call_rules.specs.declared.answer.Answer.{Answer}
use Rattle.call_rules.specs.declared.want.Want.{Want}
use Rattle.call_rules.specs.declared.want.Want.TheVariants as want
use Rattle.role_steps.specs.Views.{Told, Shown}
use Rattle.the_run.specs.Kept.{Among}
use Rattle.the_run.specs.Worlds.{Line}
use Rattle.tree_model.specs.declared.accepted.Waiting.{Waiting}
use Rattle.tree_model.specs.Calls.{accepted_as, call_named, waiting, opening_of}
use Rattle.tree_model.specs.Epochs.{boot_of, epoch_of}
use Rattle.lawful_trace.specs.Progress.{is_packed_in}
use Rattle.lawful_trace.specs.Tables.{begun}
use Rattle.lawful_trace.specs.TreeRows.{IsCallIn, is_open_of}
use Rattle.tree_laws.specs.Calls.{is_request, log, script}
use Rattle.tree_laws.specs.Following.{IsFollowed, MayTell}
use Rattle.tree_laws.specs.Holding.{begun_with, has_instances, with_begun}
use Rattle.tree_laws.specs.Past.{GrantRecord, Printed, WasGranted, WasReleased}
use Rattle.tree_laws.specs.Printed.{entries, onto_entries}
use Rattle.tree_laws.specs.Serials.{asked_now}
use Rattle.tree_laws.proofs.Awaiting.{all_have}
use Rattle.tree_laws.proofs.Fresh.{numbered}
use Rattle.tree_laws.proofs.Names.{same_call_eq, same_call_own}
use Rattle.tree_laws.proofs.Rows.{followed_rows}
use Rattle.tree_laws.proofs.Waiting.{asking_waits}
use Rattle.tree_laws.specs.Orders.Joining.{PacksAreOfSites}
use Rattle.tree_laws.proofs.Orders.Joining.{boot_low}
use Rattle.tree_laws.proofs.Orders.Standing.{same_file_eq}
use Rattle.store_laws.proofs.Begun.{granted_in}
use Rattle.store_laws.proofs.ScriptEnding.{GivesNone}
use Rattle.store_laws.proofs.ScriptEndingCalls.{NotOpen, has_by, wants_end}
use Rattle.store_laws.proofs.ScriptFitted.{began_right, fit_same, log_fits, script_sound}
use Rattle.store_laws.proofs.ScriptFitting.{IsSound}
use Rattle.store_laws.proofs.ScriptHad.{by_same, has_log}
use Rattle.store_laws.proofs.ScriptNaming.{Opens, script_by, BeganOpening, BeganSo, RereadsIn, openers_begin}
use Rattle.store_laws.proofs.ScriptSoundCalls.{HasFree}
use Rattle.store_laws.proofs.ScriptReopening.{OpensKept, read_kept}
use Rattle.store_laws.proofs.OneTree.RemovePlaced.{GrantedSo, IsPlaced, Placed, granted_placed}
use Rattle.store_laws.proofs.OneTree.RemoveScripts.{Along, along_same}
use Rattle.rest_laws.proofs.AdoptionHaving.{HasOrWaits, granted_had}
use Rattle.rest_laws.proofs.Fits.EntryFacts.{IsAnswered, IsKnown, IsPlain, named_known, roots_known}
use Rattle.rest_laws.proofs.Fits.EntryHeard.{Heard}
use Rattle.rest_laws.proofs.Fits.EntryNamed.{trace_named}
use Rattle.rest_laws.proofs.Fits.EntryWalking.{WalkerAsks, wants_so}
use Rattle.calm_laws.proofs.Convergence.DirectoriesSteady.{OpenedFile, again_opened}

-- ---- calls have boots ----

pub booted : (c : Config) (t : List Line) → IsFollowed c t → (d : CallId) (w : Waiting) → call_named (entries t) d ≡ Some w → 1 ≤ d.boot
booted c [] h d w named = absurd (none_some w named)
booted c (y ∷ older) h d w named = over y.told h.0 (booted c older h.1 d w) named
  where
    over : (x : Told) → MayTell c older x → (call_named (entries older) d ≡ Some w → 1 ≤ d.boot) → call_named (onto_entries y.number x (entries older)) d ≡ Some w → 1 ≤ d.boot
    over (Shown (says.Accept s process new words)) may later k = by_test (same_call new d) refl k
      where
        by_test : (b : Bool) → same_call new d ≡ b → cond b (Some (accepted_as (entries older) s process new words)) (call_named (entries older) d) ≡ Some w → 1 ≤ d.boot
        by_test true q z = (let low : 1 ≤ boot_of (entries older) s = boot_low c (entries older) (followed_rows c older h.1) s in
            subst (λ (i : ℕ). 1 ≤ i) (ap (λ (x : CallId). x.boot) (sym (numbered c (entries older) s process new words may.row) ∙ same_call_eq new d q)) low)
        by_test false q z = later z
    over (Shown r) may later k = later k
    over _ may later k = later k

-- ---- who was granted something walks ----

pub opening_there : (t : List Line) (e : EpochId) (d : CallId) (request : ℕ) (i : Serial) (m : Mode) (f : FileId) (stamp : Option Stamp) (ss : ℕ) → WasGranted t e d request i m f stamp ss → (x : Descriptor) × (opening_of (entries t) d ≡ Some x)
opening_there [] e d request i m f stamp ss was = absurd was
opening_there (y ∷ older) e d request i m f stamp ss was = over y.told (λ k. opening_there older e d request i m f stamp ss k) was
  where
    Result : List Line → Type 0
    Result t = (x : Descriptor) × (opening_of (entries t) d ≡ Some x)

    over : (x : Told) → (WasGranted older e d request i m f stamp ss → Result older) → Printed (GrantRecord e d request i m f stamp ss) older x ⊎ WasGranted older e d request i m f stamp ss → (z : Descriptor) × (opening_of (onto_entries y.number x (entries older)) d ≡ Some z)
    over (Shown (says.Grant at it number inst md file on place)) later k = by_when k
      where
        now : Descriptor
        now = record { mode = md; epoch = at; inst = inst; steady = None }

        more : (b : Bool) → Result older → (z : Descriptor) × (cond b (Some now) (opening_of (entries older) d) ≡ Some z)
        more true z = (now, refl)
        more false z = z

        by_when : Printed (GrantRecord e d request i m f stamp ss) older (Shown (says.Grant at it number inst md file on place)) ⊎ WasGranted older e d request i m f stamp ss → (z : Descriptor) × (cond (same_call it d) (Some now) (opening_of (entries older) d) ≡ Some z)
        by_when (inl g) = (now, ap (λ (b : Bool). cond b (Some now) (opening_of (entries older) d)) (subst (λ (z : CallId). same_call it z ≡ true) g.call_is (same_call_own it)))
        by_when (inr g) = more (same_call it d) (later g)
    over (Shown r) later (inl k) = absurd k
    over (Shown r) later (inr k) = later k
    over _ later (inl k) = absurd k
    over _ later (inr k) = later k

-- ---- what an open call opens ----

-- a call opens, or it is of another kind
opens_or_not : (words : Call) → Opens words ⊎ NotOpen words
opens_or_not (call.Open path m) = inl (record { path = path; how = m; words_are = refl })
opens_or_not words = inr tt

along_front : (P : Want → Answer → Type 0) (k : List Answer → Want) (xs ys : List Answer) → Along P k (xs ++ ys) → Along P k xs
along_front P k [] ys h = tt
along_front P k (x ∷ xs) ys h = (h.0, along_front P (λ zs. k (x ∷ zs)) xs ys h.1)

opener_opens : (Known : FileId → Kind → Type 0) (words : Call) → Opens words → (m : Mode) (f : FileId) (w : Want) → is_open_of m f w ≡ true → WalkerAsks Known words w → Known f kind.File
opener_opens Known words o m f w e k = over m w e (subst (λ (v : Call). WalkerAsks Known v w) o.words_are k)
  where
    over : (n : Mode) (v : Want) → is_open_of n f v ≡ true → WalkerAsks Known (call.Open o.path o.how) v → Known f kind.File
    over mode.Read (want.Open g how.Read) q z = subst (λ (x : FileId). Known x kind.File) (same_file_eq g f q) z
    over mode.Read (want.Open g how.Steady) q z = subst (λ (x : FileId). Known x kind.File) (same_file_eq g f q) z
    over mode.Read _ q z = absurd (true_false (sym q))
    over mode.Write (want.Open g how.Write) q z = subst (λ (x : FileId). Known x kind.File) (same_file_eq g f q) z
    over mode.Write _ q z = absurd (true_false (sym q))
    over mode.Resolve (want.Open g (how.Resolve site)) q z = subst (λ (x : FileId). Known x kind.File) (same_file_eq g f q) z
    over mode.Resolve _ q z = absurd (true_false (sym q))
    over mode.Mend (want.OpenToMend g) q z = absurd z
    over mode.Mend _ q z = absurd (true_false (sym q))
    over mode.Make (want.Make g kd sites) q z = absurd z
    over mode.Make _ q z = absurd (true_false (sym q))

no_free : (id : CallId) (words : Call) → NotOpen words → HasFree None (begins.Walks id) words
no_free id (call.Open path m) n = absurd n
no_free id words n = tt

-- what a read opens again is of the file of the version that its descriptor keeps
kept_file : (kept : OneVersion) (m : Mode) (f : FileId) (w : Want) → is_open_of m f w ≡ true → OpensKept kept w → kept.file ≡ f
kept_file kept mode.Read f (want.Open g how.Read) e k = k.0 ∙ same_file_eq g f e
kept_file kept mode.Read f (want.Open g how.Steady) e k = k.0 ∙ same_file_eq g f e
kept_file kept mode.Read f _ e k = absurd (true_false (sym e))
kept_file kept mode.Write f (want.Open g how.Write) e k = k.0 ∙ same_file_eq g f e
kept_file kept mode.Write f _ e k = absurd (true_false (sym e))
kept_file kept mode.Resolve f (want.Open g (how.Resolve site)) e k = k.0 ∙ same_file_eq g f e
kept_file kept mode.Resolve f _ e k = absurd (true_false (sym e))
kept_file kept mode.Mend f (want.OpenToMend g) e k = absurd k
kept_file kept mode.Mend f _ e k = absurd (true_false (sym e))
kept_file kept mode.Make f (want.Make g kd sites) e k = absurd k
kept_file kept mode.Make f _ e k = absurd (true_false (sym e))

open_reads : (path : List ℕ) (m : OpenMode) (fd at len : ℕ) → call.Open path m ≡ call.Read fd at len → ⊥
open_reads path m fd at len e = cc

-- ---- an instance that was granted ----

-- whom it was granted to walks, or opens a version again
begins_so : (c : Config) (t : List Line) → IsFollowed c t → (e : EpochId) (d : CallId) (request : ℕ) (i : Serial) (m : Mode) (f : FileId) (stamp : Option Stamp) (ss : ℕ) → WasGranted t e d request i m f stamp ss → (w : Waiting) → call_named (entries t) d ≡ Some w → BeganOpening t d w.words
begins_so c t h e d request i m f stamp ss was w named = (let x : (x : Descriptor) × (opening_of (entries t) d ≡ Some x) = opening_there t e d request i m f stamp ss was in
    let k : BeganSo t d = openers_begin c t h d x.0 x.1 in
    subst (λ (y : Waiting). BeganOpening t d y.words) (some_same k.caller w (sym k.named ∙ named)) k.opening)

module _ (c : Config) (packs : PacksAreOfSites c) (t : List Line) (h : IsFollowed c t) (e : EpochId) (d : CallId) (request : ℕ) (i : Serial) (m : Mode) (f : FileId) (stamp : Option Stamp) (ss : ℕ) (was : WasGranted t e d request i m f stamp ss) where
  abbrev pub grantee : IsCallIn (entries t) e d
  grantee = granted_in c t h e d request i m f stamp ss was

-- where it walks
module _ (c : Config) (packs : PacksAreOfSites c) (t : List Line) (h : IsFollowed c t) (e : EpochId) (d : CallId) (request : ℕ) (i : Serial) (m : Mode) (f : FileId) (stamp : Option Stamp) (ss : ℕ) (was : WasGranted t e d request i m f stamp ss) (walks : begun (entries t) d ≡ Some (begins.Walks d)) where
  abbrev its : IsCallIn (entries t) e d
  its = granted_in c t h e d request i m f stamp ss was

  abbrev w : Waiting
  w = its.accepted

  -- the call's script
  abbrev goes : List Answer → Want
  goes = wants c.mounts (is_packed_in c (entries t) w.epoch) None w.words (begins.Walks d)

  same : (xs : List Answer) → script c (entries t) d None xs ≡ goes xs
  same xs = script_by c t d w (begins.Walks d) None xs its.named walks

  -- ---- an open ----

  asks_after : (xs ys : List Answer) → log t d ≡ xs ++ ys → WalkerAsks (IsKnown c t) w.words (script c (entries t) d None xs)
  asks_after xs ys is = subst (WalkerAsks (IsKnown c t) w.words) (sym (same xs))
      (wants_so (IsAnswered c t d) (IsKnown c t) (λ at component ino k q. named_known c t at.group ino k q) (roots_known c t) (λ r a q. q) c.mounts (is_packed_in c (entries t) w.epoch) None w.words (begins.Walks d) xs
      (along_same (IsAnswered c t d) (script c (entries t) d None) goes same xs
      (along_front (IsAnswered c t d) (script c (entries t) d None) xs ys (subst (Along (IsAnswered c t d) (script c (entries t) d None)) is taken))))
    where
      heard : Heard c t d
      heard = (trace_named c packs t h).calls d (w, its.named)

      taken : Along (IsAnswered c t d) (script c (entries t) d None) (log t d)
      taken = heard.taken

  opener_plain : Opens w.words → IsPlain c t f
  opener_plain o = opener_opens (IsKnown c t) w.words o m f placed.asked placed.fits.0 (over placed.place)
    where
      placed : Placed c t d (GrantedSo m f i)
      placed = granted_placed c t h e d request i m f stamp ss was

      over : IsPlaced c d placed.before placed.given t → WalkerAsks (IsKnown c t) w.words placed.asked
      over (inl p) = subst (WalkerAsks (IsKnown c t) w.words) placed.script_is (asks_after placed.before [] (p.0 ∙ sym (append-nil placed.before)))
      over (inr p) = subst (WalkerAsks (IsKnown c t) w.words) placed.script_is (asks_after placed.before (placed.given ∷ p.0) p.1)

  -- ---- any other call ----

  ends : NotOpen w.words → GivesNone (goes (log t d)) (has_by goes (begun_with (begins.Walks d)) (log t d))
  ends other = wants_end c.mounts (is_packed_in c (entries t) w.epoch) None d w.words (begun_with (begins.Walks d)) (λ j q. true_false (sym q)) (began_right t d w (begins.Walks d) its.named walks) other (log t d)
      (fit_same (script c (entries t) d None) goes (log t d) same (log_fits c t d h (w, its.named)))

  there : has_instances c t d i ≡ true → has_by goes (begun_with (begins.Walks d)) (log t d) i ≡ true
  there has = sym (by_same (script c (entries t) d None) goes (begun_with (begins.Walks d)) (log t d) i same)
      ∙ (sym (ap (λ (o : Option Beginning). has_by (script c (entries t) d None) (with_begun o) (log t d) i) walks) ∙ (sym (has_log c t h d (w, its.named) i) ∙ has))

  having_asks : NotOpen w.words → has_instances c t d i ≡ true → is_request (asked_now c t d) ≡ true
  having_asks other has = over (asked_now c t d) refl
    where
      sound : IsSound w.words None (asked_now c t d)
      sound = script_sound c t d w (begins.Walks d) None h its.named walks (no_free d w.words other)

      over : (x : Want) → asked_now c t d ≡ x → is_request x ≡ true
      over (want.Give r) is = absurd (subst (λ (y : Want). GivesNone y (has_by goes (begun_with (begins.Walks d)) (log t d))) (sym (same (log t d)) ∙ is) (ends other) i (there has))
      over want.Never is = absurd (subst (IsSound w.words None) is sound)
      over x is = refl

  walker_waits : (WasReleased t e i → ⊥) → epoch_of (entries t) d.site ≡ Some e → Among w (waiting (entries t)) ⊎ IsPlain c t f
  walker_waits live inside = over (opens_or_not w.words)
    where
      asks : NotOpen w.words → HasOrWaits c t d i → is_request (asked_now c t d) ≡ true
      asks other (inl k) = ((all_have c t h).awaits d k.0 (w, its.named) k.1).asked
      asks other (inr has) = having_asks other has

      over : Opens w.words ⊎ NotOpen w.words → Among w (waiting (entries t)) ⊎ IsPlain c t f
      over (inl o) = inr (opener_plain o)
      over (inr other) = inl (asking_waits c t e d h its inside (asks other (granted_had c t h e d request i m f stamp ss was live)))

module _ (c : Config) (packs : PacksAreOfSites c) (t : List Line) (h : IsFollowed c t) where
  -- what was granted to an open is no directory
  opened_plain : (f : FileId) → OpenedFile t f → IsPlain c t f
  opened_plain f o = over (begins_so c t h o.epoch o.opener o.request o.inst o.mode f o.stamp o.place o.was_granted o.caller o.named)
    where
      same : (granted_in c t h o.epoch o.opener o.request o.inst o.mode f o.stamp o.place o.was_granted).accepted ≡ o.caller
      same = some_same (granted_in c t h o.epoch o.opener o.request o.inst o.mode f o.stamp o.place o.was_granted).accepted o.caller (sym (granted_in c t h o.epoch o.opener o.request o.inst o.mode f o.stamp o.place o.was_granted).named ∙ o.named)

      over : BeganOpening t o.opener o.caller.words → IsPlain c t f
      over (inl walks) = opener_plain c packs t h o.epoch o.opener o.request o.inst o.mode f o.stamp o.place o.was_granted walks (subst (λ (y : Waiting). Opens y.words) (sym same) o.opens)
      over (inr reads) = absurd (open_reads o.opens.path o.opens.how reads.2.fd reads.2.at reads.2.len (sym o.opens.words_are ∙ reads.2.words_are))

  module _ (e : EpochId) (d : CallId) (request : ℕ) (i : Serial) (m : Mode) (f : FileId) (stamp : Option Stamp) (ss : ℕ) (was : WasGranted t e d request i m f stamp ss) where
    abbrev own : Waiting
    own = (grantee c packs t h e d request i m f stamp ss was).accepted

    -- nor is what a read opens again
    again_plain : RereadsIn t d own.words → IsPlain c t f
    again_plain k = subst (IsPlain c t) file (opened_plain k.2.kept.file (again_opened c t h d k.2.kept k.2.last begins_again))
      where
        begins_again : begun (entries t) d ≡ Some (begins.Reopens k.2.kept k.2.last)
        begins_again = k.1 ∙ ap Some k.2.begins_are

        placed : Placed c t d (GrantedSo m f i)
        placed = granted_placed c t h e d request i m f stamp ss was

        pk : ℕ → Bool
        pk = is_packed_in c (entries t) own.epoch

        file : k.2.kept.file ≡ f
        file = kept_file k.2.kept m f placed.asked placed.fits.0
            (subst (OpensKept k.2.kept) (sym (ap (λ (y : Call). wants c.mounts pk None y (begins.Reopens k.2.kept k.2.last) placed.before) k.2.words_are) ∙ (sym (script_by c t d own (begins.Reopens k.2.kept k.2.last) None placed.before (grantee c packs t h e d request i m f stamp ss was).named begins_again) ∙ placed.script_is))
            (read_kept c.mounts pk None k.2.fd k.2.at k.2.len k.2.kept k.2.last placed.before))

    -- while it is open its call waits, or it is of a file that is no directory
    pub waits_or_plain : (WasReleased t e i → ⊥) → epoch_of (entries t) d.site ≡ Some e → Among own (waiting (entries t)) ⊎ IsPlain c t f
    waits_or_plain live inside = over (begins_so c t h e d request i m f stamp ss was own (grantee c packs t h e d request i m f stamp ss was).named)
      where
        over : BeganOpening t d own.words → Among own (waiting (entries t)) ⊎ IsPlain c t f
        over (inl walks) = walker_waits c packs t h e d request i m f stamp ss was walks live inside
        over (inr again) = inr (again_plain again)
