-- What was told: what an earlier law says of it, and how the laws of holds meet.
use Rattle.std.proofs.Common.{◌≡◌, ℕ, ◌==◌, ◌<◌, Bool, true, false, cond, ◌⊎◌, List, [], ◌∷◌, Option, Some, None, refl, sym, ◌∙◌, subst, inl, inr, arith}
use Rattle.std.proofs.lemmas.Bool.Decides.{nat_tests}
use Rattle.role_steps.proofs.of_plain_facts.Numbers.{equal}
use Rattle.locus_ids.specs.declared.ids.EpochId.{EpochId}
use Rattle.locus_ids.specs.declared.ids.FileId.{FileId}
use Rattle.locus_ids.specs.declared.ids.Mode.{Mode}
use Rattle.locus_ids.specs.declared.ids.Mode.TheVariants as mode
use Rattle.locus_ids.specs.declared.config.Config.{Config}
use Rattle.locus_ids.specs.Sizes.{inode_span}
use Rattle.commit_graph.specs.Grants.{is_read}
use Rattle.trace_book.specs.declared.record.Record.{Record}
use Rattle.trace_book.specs.declared.record.Record.TheVariants as says
use Rattle.role_steps.specs.Views.{Told, Shown, Promises, Shuts, Reserves, serial_key}
use Rattle.run_laws.specs.Standing.{nowhere}
use Rattle.site_laws.specs.Vectors.Written.{WasTold, WasGranted}
use Rattle.site_laws.specs.Vectors.Facts.{onto}
use Rattle.site_laws.specs.Vectors.HistoryCommits.{FitTold, NumbersFit}
use Rattle.site_laws.specs.Locks.Going.{WasBegunAt, ShutAt, WasShutAt, ReleasedRecord, Released, WasReleased, InstanceGoesOn, InstancesGoOn}
use Rattle.site_laws.specs.Locks.Grants.{GrantedAsRecord, GrantedAs, WasGrantedAs, IsOver}
use Rattle.site_laws.specs.Locks.Joins.{WasJoined, FirstJoin}
use Rattle.site_laws.specs.Locks.Locks.{IsOfAFile}
use Rattle.site_laws.specs.Packs.Making.{CommitsFile, WasCommitted}
use Rattle.site_laws.specs.Kept.StampCommits.{MadeRecord, MadeAt, WasMade, Under, stood, Here}
use Rattle.site_laws.specs.Makes.Holding.{ReservedAt, WasReserved, ReservedTold, MakesAreReserved}
use Rattle.site_laws.specs.Makes.Locked.{HeldRecord, HeldAs, WasHeldAs, OverAs, HoldsAreLocked}
use Rattle.site_laws.specs.Kept.StampLaws.{Laws}
use Rattle.site_laws.specs.Kept.StampCovering.{HasJoined, Holds}

-- ---- the laws of an earlier past ----

pub laws_older : (c : Config) (x : Told) (past : List Told) → Laws c (x ∷ past) → Laws c past
laws_older c x past h = record {
  joins = h.joins.1;
  lists = λ s t id m n a b. h.lists s t id m n (inr a) (inr b);
  goes = h.goes.1;
  agree = λ e key f g a b. h.agree e key f g (inr a) (inr b);
  sites = λ e key s t f g a b. h.sites e key s t f g (inr a) (inr b);
  stand = λ e key s file g m it a b r. h.stand e key s file g m it (inr a) (inr b) (inr r);
  locked = h.locked.1;
  fresh = h.fresh.1;
  reserved = h.reserved.1;
  makes = λ e key s file other m a b. h.makes e key s file other m (inr a) (inr b);
  packs = h.packs.1;
  fit = h.fit.1;
  sited = h.sited.1;
}

pub laws_before : (c : Config) (told past : List Told) → Laws c (onto told past) → Laws c past
laws_before c [] past h = h
laws_before c (x ∷ xs) past h = laws_older c x past (laws_before c xs (x ∷ past) h)

-- ---- commits ----

pub under_begun : (past : List Told) (s : ℕ) (e : EpochId) (key : ℕ) (file : FileId) (n : ℕ) → Under past s e key file n → WasBegunAt past s e key file
under_begun [] s e key file n h = absurd h
under_begun (x ∷ older) s e key file n (inl h) = inr h.1
under_begun (x ∷ older) s e key file n (inr h) = inr (under_begun older s e key file n h)

made_record_fits : (s : ℕ) (file : FileId) (n : ℕ) (r : Record) → FitTold (Shown r) → MadeRecord s file n r → file.ino < inode_span
made_record_fits s file n (says.Commit g t stamp parents content) k h = subst (λ (f : FileId). f.ino < inode_span) h.0 k
made_record_fits s file n _ k h = absurd h

made_told_fits : (s : ℕ) (file : FileId) (n : ℕ) (x : Told) → FitTold x → MadeAt s file n x → file.ino < inode_span
made_told_fits s file n (Shown r) k h = made_record_fits s file n r k h
made_told_fits s file n _ k h = absurd h

pub made_fits : (past : List Told) (s : ℕ) (file : FileId) (n : ℕ) → NumbersFit past → WasMade past s file n → file.ino < inode_span
made_fits [] s file n k h = absurd h
made_fits (x ∷ older) s file n k (inl h) = made_told_fits s file n x k.0 h
made_fits (x ∷ older) s file n k (inr h) = made_fits older s file n k.1 h

made_record_commits : (s : ℕ) (file : FileId) (n : ℕ) (r : Record) → MadeRecord s file n r → CommitsFile file (Shown r)
made_record_commits s file n (says.Commit g t stamp parents content) h = h.0
made_record_commits s file n _ h = absurd h

made_told_commits : (s : ℕ) (file : FileId) (n : ℕ) (x : Told) → MadeAt s file n x → CommitsFile file x
made_told_commits s file n (Shown r) h = made_record_commits s file n r h
made_told_commits s file n _ h = absurd h

pub made_committed : (past : List Told) (s : ℕ) (file : FileId) (n : ℕ) → WasMade past s file n → WasCommitted past file
made_committed [] s file n h = absurd h
made_committed (x ∷ older) s file n (inl h) = inl (made_told_commits s file n x h)
made_committed (x ∷ older) s file n (inr h) = inr (made_committed older s file n h)

-- ---- what is released was shut where it was begun ----

shut_told : (s : ℕ) (e : EpochId) (key : ℕ) (older : List Told) (x : Told) → InstanceGoesOn older x → ShutAt s e key x → (file : FileId) × WasBegunAt older s e key file
shut_told s e key older (Shuts t at inst) g h =
    (g.0, subst (λ (n : ℕ). WasBegunAt older n e key g.0) h.0 (subst (λ (id : EpochId). WasBegunAt older t id key g.0) h.1 (subst (λ (k : ℕ). WasBegunAt older t at k g.0) h.2 g.1)))
shut_told s e key older _ g h = absurd h

pub shut_begun : (s : ℕ) (e : EpochId) (key : ℕ) (past : List Told) → InstancesGoOn past → WasShutAt past s e key → (file : FileId) × WasBegunAt past s e key file
shut_begun s e key [] g h = absurd h
shut_begun s e key (x ∷ older) g (inl h) = let k : (file : FileId) × WasBegunAt older s e key file = shut_told s e key older x g.0 h in (k.0, inr k.1)
shut_begun s e key (x ∷ older) g (inr h) = let k : (file : FileId) × WasBegunAt older s e key file = shut_begun s e key older g.1 h in (k.0, inr k.1)

pub record Ended (past : List Told) (e : EpochId) (key : ℕ) (file : FileId) : Type 0 where
  pub ss : ℕ
  pub granted : WasGranted past e key file
  pub shut : WasShutAt past ss e key

ended_later : (x : Told) (past : List Told) (e : EpochId) (key : ℕ) (file : FileId) → Ended past e key file → Ended (x ∷ past) e key file
ended_later x past e key file h = record { ss = h.ss; granted = inr h.granted; shut = inr h.shut }

-- the file is released, under this key in this epoch
abbrev pub ReleasesRecord : EpochId → ℕ → FileId → Record → Type 0
ReleasesRecord e key file (says.Release at inst of made) = (at ≡ e) × (serial_key inst ≡ key) × (of ≡ file)
ReleasesRecord e key file _ = ⊥

abbrev pub Releases : EpochId → ℕ → FileId → Told → Type 0
Releases e key file (Shown r) = ReleasesRecord e key file r
Releases e key file _ = ⊥

released_record : (older : List Told) (e : EpochId) (key : ℕ) (r : Record) → InstanceGoesOn older (Shown r) → ReleasedRecord e key r → (file : FileId) × ReleasesRecord e key file r × Ended older e key file
released_record older e key (says.Release at inst of made) g h = (
  of,
  (h.0, h.1, refl),
  record {
    ss = g.ss;
    granted = subst (λ (k : ℕ). WasGranted older e k of) h.1 (subst (λ (i : EpochId). WasGranted older i (serial_key inst) of) h.0 g.granted);
    shut = subst (λ (k : ℕ). WasShutAt older g.ss e k) h.1 (subst (λ (i : EpochId). WasShutAt older g.ss i (serial_key inst)) h.0 g.was_shut);
  },
)
released_record older e key _ g h = absurd h

pub released_told : (older : List Told) (e : EpochId) (key : ℕ) (x : Told) → InstanceGoesOn older x → Released e key x → (file : FileId) × Releases e key file x × Ended older e key file
released_told older e key (Shown r) g h = released_record older e key r g h
released_told older e key _ g h = absurd h

pub released_ended : (past : List Told) (e : EpochId) (key : ℕ) → InstancesGoOn past → WasReleased past e key → (file : FileId) × WasTold (Releases e key file) past × Ended past e key file
released_ended [] e key g h = absurd h
released_ended (x ∷ older) e key g (inl h) = let k : (file : FileId) × Releases e key file x × Ended older e key file = released_told older e key x g.0 h in (k.0, inl k.1, ended_later x older e key k.0 k.2)
released_ended (x ∷ older) e key g (inr h) = let k : (file : FileId) × WasTold (Releases e key file) older × Ended older e key file = released_ended older e key g.1 h in (k.0, inr k.1, ended_later x older e key k.0 k.2)

-- what a site has begun and not shut isn't released
pub not_released : (c : Config) (past : List Told) (s : ℕ) (e : EpochId) (key : ℕ) (file : FileId) → Laws c past → WasBegunAt past s e key file → (WasShutAt past s e key → ⊥) → WasReleased past e key → ⊥
not_released c past s e key file h begun unshut released =
    let k : (f : FileId) × WasTold (Releases e key f) past × Ended past e key f = released_ended past e key h.goes released in
    let b : (f : FileId) × WasBegunAt past k.2.ss e key f = shut_begun k.2.ss e key past h.goes k.2.shut in
    unshut (subst (λ (n : ℕ). WasShutAt past n e key) (h.sites e key k.2.ss s b.0 file b.1 begun) k.2.shut)

-- ---- where a site is ----

some_eq : (x y : EpochId) → ◌≡◌ {A = Option EpochId} (Some x) (Some y) → x ≡ y
some_eq x y e = cc

none_some : (x : EpochId) → ◌≡◌ {A = Option EpochId} None (Some x) → ⊥
none_some x e = cc

pub here_once : (past : List Told) (s : ℕ) (e d : EpochId) → Here past s e → Here past s d → e ≡ d
here_once past s e d h g = some_eq e d (sym h ∙ g)

-- a site that is in an epoch which it had joined was in it before
here_record : (r : Record) (past : List Told) (s : ℕ) (e : EpochId) → FirstJoin past (Shown r) → HasJoined past s e → Here (Shown r ∷ past) s e → Here past s e
here_record (says.Up t boot) past s e first joined h = by_test (t == s) h
  where
    by_test : (b : Bool) → (cond b nowhere (stood s past)).epoch ≡ Some e → Here past s e
    by_test true g = absurd (none_some e g)
    by_test false g = g
here_record (says.Join t id members) past s e first joined h = by_test (t == s) refl h
  where
    again : t ≡ s → id ≡ e → ⊥
    again a b = first joined.0 (subst (λ (n : ℕ). WasJoined past n id joined.0) (sym a) (subst (λ (i : EpochId). WasJoined past s i joined.0) (sym b) joined.1))

    by_test : (b : Bool) → (t == s) ≡ b → (cond b (record { promised = (stood s past).promised; installed = true; epoch = Some id }) (stood s past)).epoch ≡ Some e → Here past s e
    by_test true q g = absurd (again (equal t s q) (some_eq id e g))
    by_test false q g = g
here_record (says.Leave t id) past s e first joined h = by_test (t == s) h
  where
    by_test : (b : Bool) → (cond b (record { promised = (stood s past).promised; installed = (stood s past).installed; epoch = None }) (stood s past)).epoch ≡ Some e → Here past s e
    by_test true g = absurd (none_some e g)
    by_test false g = g
here_record _ past s e first joined h = h

here_promise : (t : ℕ) (id : EpochId) (past : List Told) (s : ℕ) (e : EpochId) (b : Bool) → (cond b (record { promised = id; installed = false; epoch = (stood s past).epoch }) (stood s past)).epoch ≡ Some e → Here past s e
here_promise t id past s e true h = h
here_promise t id past s e false h = h

pub here_before : (x : Told) (past : List Told) (s : ℕ) (e : EpochId) → FirstJoin past x → HasJoined past s e → Here (x ∷ past) s e → Here past s e
here_before (Shown r) past s e first joined h = here_record r past s e first joined h
here_before (Promises t id reach) past s e first joined h = here_promise t id past s e (t == s) h
here_before _ past s e first joined h = h

pub joined_later : (x : Told) (past : List Told) (s : ℕ) (e : EpochId) → HasJoined past s e → HasJoined (x ∷ past) s e
joined_later x past s e h = (h.0, inr h.1)

-- ---- holds ----

plain_or_make : (m : Mode) → IsOfAFile m ⊎ (m ≡ mode.Make)
plain_or_make mode.Make = inr refl
plain_or_make mode.Read = inl tt
plain_or_make mode.Write = inl tt
plain_or_make mode.Resolve = inl tt
plain_or_make mode.Mend = inl tt

granted_held_record : (e : EpochId) (key : ℕ) (file : FileId) (m : Mode) (r : Record) → IsOfAFile m → GrantedAsRecord e key file m r → HeldRecord e key file m r
granted_held_record e key file m (says.Grant at call request inst n of stamp ss) it h = (h.0, h.1, h.2, h.3, it)
granted_held_record e key file m _ it h = absurd h

granted_held_told : (e : EpochId) (key : ℕ) (file : FileId) (m : Mode) (x : Told) → IsOfAFile m → GrantedAs e key file m x → HeldAs e key file m x
granted_held_told e key file m (Shown r) it h = granted_held_record e key file m r it h
granted_held_told e key file m _ it h = absurd h

pub told_held : (P Q : Told → Type 0) → ((x : Told) → P x → Q x) → (past : List Told) → WasTold P past → WasTold Q past
told_held P Q f [] h = absurd h
told_held P Q f (x ∷ older) (inl h) = inl (f x h)
told_held P Q f (x ∷ older) (inr h) = inr (told_held P Q f older h)

reserved_held_told : (s : ℕ) (e : EpochId) (key : ℕ) (file : FileId) (x : Told) → ReservedAt s e key file x → HeldAs e key file mode.Make x
reserved_held_told s e key file (Reserves t at inst of) h = (h.1, h.2, h.3, refl)
reserved_held_told s e key file _ h = absurd h

pub reserved_held : (past : List Told) (s : ℕ) (e : EpochId) (key : ℕ) (file : FileId) → WasReserved past s e key file → WasHeldAs past e key file mode.Make
reserved_held past s e key file h = told_held (ReservedAt s e key file) (HeldAs e key file mode.Make) (reserved_held_told s e key file) past h

read_make : mode.Read ≡ mode.Make → ⊥
read_make e = cc

write_make : mode.Write ≡ mode.Make → ⊥
write_make e = cc

resolve_make : mode.Resolve ≡ mode.Make → ⊥
resolve_make e = cc

mend_make : mode.Mend ≡ mode.Make → ⊥
mend_make e = cc

make_record : (older : List Told) (e : EpochId) (key : ℕ) (file : FileId) (r : Record) → ReservedTold older (Shown r) → GrantedAsRecord e key file mode.Make r → (s : ℕ) × WasReserved older s e key file
make_record older e key file (says.Grant at call request inst mode.Make of stamp ss) k h =
    (k.0, subst (λ (i : EpochId). WasReserved older k.0 i key file) h.0 (subst (λ (n : ℕ). WasReserved older k.0 at n file) h.1 (subst (λ (g : FileId). WasReserved older k.0 at (serial_key inst) g) h.2 k.1)))
make_record older e key file (says.Grant at call request inst mode.Read of stamp ss) k h = absurd (read_make h.3)
make_record older e key file (says.Grant at call request inst mode.Write of stamp ss) k h = absurd (write_make h.3)
make_record older e key file (says.Grant at call request inst mode.Resolve of stamp ss) k h = absurd (resolve_make h.3)
make_record older e key file (says.Grant at call request inst mode.Mend of stamp ss) k h = absurd (mend_make h.3)
make_record older e key file _ k h = absurd h

make_told : (older : List Told) (e : EpochId) (key : ℕ) (file : FileId) (x : Told) → ReservedTold older x → GrantedAs e key file mode.Make x → (s : ℕ) × WasReserved older s e key file
make_told older e key file (Shown r) k h = make_record older e key file r k h
make_told older e key file _ k h = absurd h

make_reserved : (past : List Told) (e : EpochId) (key : ℕ) (file : FileId) → MakesAreReserved past → WasGrantedAs past e key file mode.Make → (s : ℕ) × WasReserved past s e key file
make_reserved [] e key file k h = absurd h
make_reserved (x ∷ older) e key file k (inl h) = let q : (s : ℕ) × WasReserved older s e key file = make_told older e key file x k.0 h in (q.0, inr q.1)
make_reserved (x ∷ older) e key file k (inr h) = let q : (s : ℕ) × WasReserved older s e key file = make_reserved older e key file k.1 h in (q.0, inr q.1)

-- what is granted is held
pub granted_held : (past : List Told) (e : EpochId) (key : ℕ) (file : FileId) (m : Mode) → MakesAreReserved past → WasGrantedAs past e key file m → WasHeldAs past e key file m
granted_held past e key file m k h = by_mode (plain_or_make m)
  where
    by_mode : IsOfAFile m ⊎ (m ≡ mode.Make) → WasHeldAs past e key file m
    by_mode (inl it) = told_held (GrantedAs e key file m) (HeldAs e key file m) (λ x. granted_held_told e key file m x it) past h
    by_mode (inr it) = let q : (s : ℕ) × WasReserved past s e key file = make_reserved past e key file k (subst (WasGrantedAs past e key file) it h) in subst (WasHeldAs past e key file) (sym it) (reserved_held past q.0 e key file q.1)

pub holds_held : (past : List Told) (s : ℕ) (e : EpochId) (key : ℕ) (file : FileId) (m : Mode) → MakesAreReserved past → Holds past s e key file m → WasHeldAs past e key file m
holds_held past s e key file mode.Make k h = reserved_held past s e key file h
holds_held past s e key file mode.Read k h = granted_held past e key file mode.Read k h
holds_held past s e key file mode.Write k h = granted_held past e key file mode.Write k h
holds_held past s e key file mode.Resolve k h = granted_held past e key file mode.Resolve k h
holds_held past s e key file mode.Mend k h = granted_held past e key file mode.Mend k h

pub holds_later : (x : Told) (past : List Told) (s : ℕ) (e : EpochId) (key : ℕ) (file : FileId) (m : Mode) → Holds past s e key file m → Holds (x ∷ past) s e key file m
holds_later x past s e key file mode.Make h = inr h
holds_later x past s e key file mode.Read h = inr h
holds_later x past s e key file mode.Write h = inr h
holds_later x past s e key file mode.Resolve h = inr h
holds_later x past s e key file mode.Mend h = inr h

held_key_record : (e : EpochId) (j k : ℕ) (f g : FileId) (m n : Mode) (r : Record) → HeldRecord e j f m r → HeldRecord e k g n r → j ≡ k
held_key_record e j k f g m n (says.Grant at call request inst o of stamp ss) a b = sym a.1 ∙ b.1
held_key_record e j k f g m n _ a b = absurd a

held_key : (e : EpochId) (j k : ℕ) (f g : FileId) (m n : Mode) (x : Told) → HeldAs e j f m x → HeldAs e k g n x → j ≡ k
held_key e j k f g m n (Shown r) a b = held_key_record e j k f g m n r a b
held_key e j k f g m n (Reserves s at inst of) a b = sym a.1 ∙ b.1
held_key e j k f g m n _ a b = absurd a

pub true_false : (b : Bool) → b ≡ true → b ≡ false → ⊥
true_false b e f = absurd (cc)

pub is_over_later : (x : Told) (past : List Told) (e : EpochId) (key : ℕ) → IsOver past e key → IsOver (x ∷ past) e key
is_over_later x past e key (inl h) = inl (inr h)
is_over_later x past e key (inr h) = inr (inr h)

plain_released : (c : Config) (past : List Told) (s : ℕ) (e : EpochId) (key : ℕ) (file : FileId) (m : Mode) → Laws c past → IsOfAFile m → WasGrantedAs past e key file m → WasBegunAt past s e key file → IsOver past e key → WasReleased past e key
plain_released c past s e key file m l it granted begun (inl z) = z
plain_released c past s e key file m l it granted begun (inr z) = absurd (l.stand e key s file file m it granted begun z)

over_later : (x : Told) (past : List Told) (e : EpochId) (key : ℕ) (m : Mode) → OverAs past e key m → OverAs (x ∷ past) e key m
over_later x past e key mode.Make h = inr h
over_later x past e key mode.Read h = is_over_later x past e key h
over_later x past e key mode.Write h = is_over_later x past e key h
over_later x past e key mode.Resolve h = is_over_later x past e key h
over_later x past e key mode.Mend h = is_over_later x past e key h

pub plain_over : (past : List Told) (e : EpochId) (key : ℕ) (m : Mode) → IsOfAFile m → OverAs past e key m → IsOver past e key
plain_over past e key mode.Make it h = absurd it
plain_over past e key mode.Read it h = h
plain_over past e key mode.Write it h = h
plain_over past e key mode.Resolve it h = h
plain_over past e key mode.Mend it h = h

-- what was begun and is over is released
pub over_released : (c : Config) (past : List Told) (s : ℕ) (e : EpochId) (key : ℕ) (file : FileId) (m : Mode) → Laws c past → Holds past s e key file m → WasBegunAt past s e key file → OverAs past e key m → WasReleased past e key
over_released c past s e key file mode.Make l h begun z = z
over_released c past s e key file mode.Read l h begun z = plain_released c past s e key file mode.Read l tt h begun z
over_released c past s e key file mode.Write l h begun z = plain_released c past s e key file mode.Write l tt h begun z
over_released c past s e key file mode.Resolve l h begun z = plain_released c past s e key file mode.Resolve l tt h begun z
over_released c past s e key file mode.Mend l h begun z = plain_released c past s e key file mode.Mend l tt h begun z

-- so is what was granted
pub granted_released : (c : Config) (past : List Told) (s : ℕ) (e : EpochId) (key : ℕ) (file : FileId) (m : Mode) → Laws c past → WasGrantedAs past e key file m → WasBegunAt past s e key file → OverAs past e key m → WasReleased past e key
granted_released c past s e key file mode.Make l h begun z = z
granted_released c past s e key file mode.Read l h begun z = plain_released c past s e key file mode.Read l tt h begun z
granted_released c past s e key file mode.Write l h begun z = plain_released c past s e key file mode.Write l tt h begun z
granted_released c past s e key file mode.Resolve l h begun z = plain_released c past s e key file mode.Resolve l tt h begun z
granted_released c past s e key file mode.Mend l h begun z = plain_released c past s e key file mode.Mend l tt h begun z

-- of two holds of a file under two keys, one of them not to read, one is over
pub holds_apart : (past : List Told) → HoldsAreLocked past → (e : EpochId) (file : FileId) (j k : ℕ) (m n : Mode) → (j ≡ k → ⊥) → is_read n ≡ false → WasHeldAs past e j file m → WasHeldAs past e k file n → OverAs past e j m ⊎ OverAs past e k n
holds_apart [] h e file j k m n ne writes a b = absurd a
holds_apart (x ∷ older) h e file j k m n ne writes a b = by_head (holds_apart older h.1 e file j k m n ne writes) a b
  where
    second : ((is_read m ≡ true) × (is_read n ≡ true)) ⊎ OverAs older e k n → OverAs (x ∷ older) e j m ⊎ OverAs (x ∷ older) e k n
    second (inl r) = absurd (true_false (is_read n) r.1 writes)
    second (inr r) = inr (over_later x older e k n r)

    first : ((is_read n ≡ true) × (is_read m ≡ true)) ⊎ OverAs older e j m → OverAs (x ∷ older) e j m ⊎ OverAs (x ∷ older) e k n
    first (inl r) = absurd (true_false (is_read n) r.0 writes)
    first (inr r) = inl (over_later x older e j m r)

    both : OverAs older e j m ⊎ OverAs older e k n → OverAs (x ∷ older) e j m ⊎ OverAs (x ∷ older) e k n
    both (inl r) = inl (over_later x older e j m r)
    both (inr r) = inr (over_later x older e k n r)

    by_head : (WasHeldAs older e j file m → WasHeldAs older e k file n → OverAs older e j m ⊎ OverAs older e k n) → WasHeldAs (x ∷ older) e j file m → WasHeldAs (x ∷ older) e k file n → OverAs (x ∷ older) e j m ⊎ OverAs (x ∷ older) e k n
    by_head before (inl p) (inl q) = absurd (ne (held_key e j k file file m n x p q))
    by_head before (inl p) (inr q) = second (h.0 e j file m p k n q)
    by_head before (inr p) (inl q) = first (h.0 e k file n q j m p)
    by_head before (inr p) (inr q) = both (before p q)
