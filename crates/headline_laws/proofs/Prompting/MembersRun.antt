-- In every run the boots that sites take for those of others were told, and are of sites of the cluster.
use Rattle.std.proofs.Common.{◌≡◌, ℕ, ◌≤◌, ◌+◌, ◌==◌, nat_lt, arith, Bool, true, false, cond, List, [], ◌∷◌, length, Option, None, Some, refl, sym, ◌∙◌, ap, subst, inl, inr}
use Rattle.std.proofs.lemmas.Bool.Decides.{nat_tests}
use Rattle.role_steps.proofs.of_plain_facts.Numbers.{equal}
use Rattle.role_steps.proofs.of_plain_facts.Options.{none_some, some_same}
use Rattle.locus_ids.specs.Sizes.{sites_max}
use Rattle.locus_ids.specs.declared.config.Config.{Config}
use Rattle.schedule_lines.specs.Ranges.{is_site}
use Rattle.schedule_lines.specs.declared.line.Line.{Line as LineWords}
use Rattle.schedule_lines.specs.declared.line.Line.TheVariants as line
use Rattle.schedule_lines.specs.declared.line.ScheduleLine.{ScheduleLine}
use Rattle.trace_book.specs.declared.record.Record.{Record}
use Rattle.trace_book.specs.declared.record.Record.TheVariants as says
use Rattle.wire_messages.specs.declared.body.Body.{Body}
use Rattle.wire_messages.specs.declared.body.Body.TheVariants as body
use Rattle.wire_messages.specs.declared.packet.Packet.{Packet}
use Rattle.role_steps.specs.Own.{Every}
use Rattle.role_steps.specs.Views.{Calls, Event, GivesUp, Merges, Parts, Receives, Shown, SiteView, Ticks, Told, boot_in}
use Rattle.role_steps.specs.declared.rounds.InEpoch.{InEpoch}
use Rattle.role_steps.specs.declared.synchronizing.LastLook.{LastLook}
use Rattle.role_steps.specs.declared.synchronizing.SyncTable.{SyncTable}
use Rattle.role_steps.proofs.Sending.{every_append}
use Rattle.the_run.specs.Disks.{Armed, Booted, CutOff, Disk, Whole, boots, cut_disk}
use Rattle.role_steps.specs.Tables.{row}
use Rattle.the_run.specs.Kept.{IsOwn, WasSent}
use Rattle.the_run.specs.Runs.{boots_as, rearms}
use Rattle.the_run.specs.Steps.{step}
use Rattle.the_run.specs.Worlds.{Line, Numbered, Place, Running, Stopped, World, acts, arms, cause_of, cut_told, disk_of, first_world, fresh, happened, is_cut, loses, link_of, links_of, number_of, numbered_from, passed, place_at, with_numbered, puts, script_of, stops_with, told_onto}
use Rattle.the_run.specs.Worlds as worlds
use Rattle.the_run.proofs.Boots.{acts_cases, at_each, every_newest, every_numbered}
use Rattle.the_run.proofs.Events.{happened_keeps, puts_other, puts_same}
use Rattle.the_run.proofs.InsideSync.{every_without}
use Rattle.tree_model.specs.Epochs.{boot_of}
use Rattle.tree_model.specs.Folds.{Trace}
use Rattle.lawful_trace.specs.Lawful.{MayCome}
use Rattle.tree_laws.specs.Doing.{AllTold}
use Rattle.tree_laws.specs.Following.{MayTell}
use Rattle.tree_laws.specs.Printed.{entries}
use Rattle.tree_laws.proofs.Boots.{every_both}
use Rattle.tree_laws.proofs.Later.{every_among}
use Rattle.row_laws.specs.ByLine.{Gives, KeptIn}
use Rattle.row_laws.specs.Voids.{LinesFit}
use Rattle.calm_laws.specs.of_store_laws.OneTree.Places.{SiteIn, WorldFact}
use Rattle.calm_laws.specs.of_store_laws.OneTree.Rest.{IsRest, more}
use Rattle.calm_laws.specs.of_store_laws.OneTree.Roles.{RolesDo}
use Rattle.calm_laws.proofs.of_store_laws.OneTree.Composing.{rest_before}
use Rattle.calm_laws.proofs.of_store_laws.OneTree.Run.{kept}
use Rattle.calm_laws.proofs.of_store_laws.OneTree.Staying.{stays}
use Rattle.calm_laws.proofs.of_store_laws.OneTree.Worlds.{Holds}
use Rattle.run_laws.proofs.Walks.FirstWorld.{first_places}
use Rattle.headline_laws.proofs.Prompting.Members.{EventTold, OutTold, Says, SentTold, Told_boots, ViewTold, mapped, step_told}
use Rattle.headline_laws.proofs.Prompting.Run.{told_of}

-- ---- boots that were told ----

-- a boot number of a site of the cluster that it has had by the records
abbrev pub WasTold : Config → Trace → ℕ → ℕ → Type 0
WasTold c b t x = 1 ≤ x → (is_site c.sites t ≡ true) × (x ≤ boot_of b t)

pub none_told : (c : Config) (b : Trace) (t : ℕ) → WasTold c b t 0
none_told c b t le = absurd (never le)
  where
    never : 1 ≤ 0 → ⊥
    never le = omega (arith, le)

-- no boot number is lower later
abbrev pub Rises : Trace → Trace → Type 0
Rises b now = (t : ℕ) → boot_of b t ≤ boot_of now t

pub rises_record : (c : Config) (n : ℕ) (r : Record) (b : Trace) → MayCome c b r → Rises b (record { line = n; what = r } ∷ b)
rises_record c n (says.Up s boot) b may u = at (s == u) (equal s u)
  where
    higher : (a b x : ℕ) → a ≡ b → nat_lt a x ≡ true → b ≤ x
    higher a b x e lt = grind (arith, nat_tests)

    same : (a : ℕ) → a ≤ a
    same a = omega arith

    at : (z : Bool) → (z ≡ true → s ≡ u) → boot_of b u ≤ cond z boot (boot_of b u)
    at true e = higher (boot_of b s) (boot_of b u) boot (ap (boot_of b) (e refl)) may.above
    at false e = same (boot_of b u)
rises_record c n _ b may u = omega arith

pub rises_more : (c : Config) (n : ℕ) (x : Told) (t : List Line) → MayTell c t x → Rises (entries t) (entries (more n x t))
rises_more c n (Shown r) t may = rises_record c n r (entries t) may.row
rises_more c n _ t may = λ u. omega arith

pub rises_onto : (c : Config) (n : ℕ) (xs : List Told) (t : List Line) → AllTold c n t xs → Rises (entries t) (entries (told_onto n xs t))
rises_onto c n [] t may u = omega arith
rises_onto c n (x ∷ xs) t may u =
    let a : boot_of (entries t) u ≤ boot_of (entries (more n x t)) u = rises_more c n x t may.0 u in
    let b : boot_of (entries (more n x t)) u ≤ boot_of (entries (told_onto n xs (more n x t))) u = rises_onto c n xs (more n x t) may.1 u in
    omega (arith, a, b)

module _ (c : Config) (b now : Trace) (up : Rises b now) where
  pub told_later : (t x : ℕ) → WasTold c b t x → WasTold c now t x
  told_later t x k le = (let own : (is_site c.sites t ≡ true) × (x ≤ boot_of b t) = k le in let rise : boot_of b t ≤ boot_of now t = up t in let at : x ≤ boot_of b t = own.1 in (own.0, omega (arith, rise, at)))

  says_later : (x : Body) → Says (WasTold c b) (none_told c b) x → Says (WasTold c now) (none_told c now) x
  says_later (body.Install members) k = λ t. told_later t (boot_in members.boot t) (k t)
  says_later _ k = tt

  pub sent_later : (ps : List Packet) → Every (SentTold (WasTold c b) (none_told c b)) ps → Every (SentTold (WasTold c now) (none_told c now)) ps
  sent_later ps k = every_both (SentTold (WasTold c b) (none_told c b)) (SentTold (WasTold c now) (none_told c now)) ps (λ p. says_later p.body) k

  pub numbered_later : (xs : List Numbered) → Every (λ (x : Numbered). SentTold (WasTold c b) (none_told c b) x.packet) xs → Every (λ (x : Numbered). SentTold (WasTold c now) (none_told c now) x.packet) xs
  numbered_later xs k = every_both _ _ xs (λ x. says_later x.packet.body) k

  pub view_later : (v : SiteView) → ViewTold (WasTold c b) (none_told c b) v → ViewTold (WasTold c now) (none_told c now) v
  view_later v k = record {
    round = λ r e t. told_later t _ (k.round r e t);
    epoch = λ i e t. told_later t _ (k.epoch i e t);
    tables = every_both _ _ v.tables (λ (t : SyncTable) looks. every_both _ _ t.looks (λ (l : LastLook). says_later l.body) looks) k.tables;
  }

-- ---- the world ----

abbrev pub PlaceTold : Config → Trace → Place → Type 0
PlaceTold c b (Running v) = ViewTold (WasTold c b) (none_told c b) v
PlaceTold c b (Stopped d) = Unit {0}

pub record ListsTold (c : Config) (w : World) : Type 0 where
  pub placed : (s : ℕ) (p : Place) → place_at w s ≡ Some p → is_site c.sites s ≡ true
  pub places : (s : ℕ) (p : Place) → place_at w s ≡ Some p → PlaceTold c (entries w.trace) p
  pub sent : Every (λ (x : Numbered). SentTold (WasTold c (entries w.trace)) (none_told c (entries w.trace)) x.packet) w.sent
  pub underway : Every (λ (x : Numbered). SentTold (WasTold c (entries w.trace)) (none_told c (entries w.trace)) x.packet) w.underway

abbrev pub Lists : Config → World → Type 0
Lists c w = IsRest c w.trace → ListsTold c w

place_later : (c : Config) (b now : Trace) → Rises b now → (p : Place) → PlaceTold c b p → PlaceTold c now p
place_later c b now up (Running v) k = view_later c b now up v k
place_later c b now up (Stopped d) k = tt

-- what an event gives
record New (c : Config) (w : World) (now : Trace) (ps : List Packet) (change : World → World) : Type 0 where
  placed : (s : ℕ) (p : Place) → place_at (change w) s ≡ Some p → is_site c.sites s ≡ true
  places : (s : ℕ) (p : Place) → place_at (change w) s ≡ Some p → PlaceTold c now p
  sent : Every (SentTold (WasTold c now) (none_told c now)) ps

module _ (c : Config) where
  abbrev Both : World → Type 0
  Both w = Holds c w × Lists c w

  happened_lists : (n : ℕ) (ps : List Packet) (told : List Told) (change : World → World) (w : World) → (change w).sent ≡ w.sent → (change w).underway ≡ w.underway →
      (IsRest c w.trace → WorldFact c w → ListsTold c w → Rises (entries w.trace) (entries (told_onto n told w.trace)) → New c w (entries (told_onto n told w.trace)) ps change) → Both w → Holds c (happened n ps told change w) → Lists c (happened n ps told change w)
  happened_lists n ps told change w same under each g =
      happened_keeps (λ u. Holds c u → Lists c u) n ps told change w (λ k. g.1) (λ l k r. (let f : ListsTold c w = g.1 r in record { placed = f.placed; places = f.places; sent = f.sent; underway = f.underway }))
      (λ a b d k r. after (rest_before c n told w.trace r) (g.0 (rest_before c n told w.trace r)) (g.1 (rest_before c n told w.trace r)) (rises_onto c n told w.trace (told_of c n told w.trace (k r).followed).0) a b d)
    where
      now : Trace
      now = entries (told_onto n told w.trace)

      P : Numbered → Type 0
      P x = SentTold (WasTold c now) (none_told c now) x.packet

      after : IsRest c w.trace → WorldFact c w → ListsTold c w → Rises (entries w.trace) now → (a b d : ℕ) → ListsTold c (with_numbered (numbered_from (w.packets + 1) ps) (told_onto n told w.trace) (w.packets + length ps) b d (change w))
      after rest f l up a b d = (let k : New c w now ps change = each rest f l up in record {
        placed = k.placed;
        places = k.places;
        sent = every_newest P (numbered_from (w.packets + 1) ps) (change w).sent (every_numbered (SentTold (WasTold c now) (none_told c now)) (w.packets + 1) ps k.sent) (subst (λ (xs : List Numbered). Every P xs) (sym same) (numbered_later c (entries w.trace) now up w.sent l.sent));
        underway = every_append P (change w).underway (numbered_from (w.packets + 1) ps) (subst (λ (xs : List Numbered). Every P xs) (sym under) (numbered_later c (entries w.trace) now up w.underway l.underway)) (every_numbered (SentTold (WasTold c now) (none_told c now)) (w.packets + 1) ps k.sent);
      })

  -- one site becomes this place
  put : (s : ℕ) (old new : Place) (now : Trace) (ps : List Packet) (w : World) → place_at w s ≡ Some old → PlaceTold c now new → Every (SentTold (WasTold c now) (none_told c now)) ps → ListsTold c w → Rises (entries w.trace) now → New c w now ps (puts s new)
  put s old new now ps w here told sent l up = record {
    placed = λ t p e. at_each s t (is_site c.sites t ≡ true) (λ q. subst (λ (u : ℕ). is_site c.sites u ≡ true) q (l.placed s old here)) (λ ne. l.placed t p (sym (puts_other s t new w ne) ∙ e));
    places = λ t p e. at_each s t (PlaceTold c now p) (λ q. subst (PlaceTold c now) (some_same new p (sym (puts_same s new w) ∙ (ap (place_at (puts s new w)) q ∙ e))) told) (λ ne. place_later c (entries w.trace) now up p (l.places t p (sym (puts_other s t new w ne) ∙ e)));
    sent = sent;
  }

  boot_so : (t : List Line) (s : ℕ) (v : SiteView) (o : Option InEpoch) → SiteIn c s t v o → v.boot ≡ boot_of (entries t) s
  boot_so t s v None k = k.users.always.boot_is
  boot_so t s v (Some e) k = k.frame.boot_is

  own_told : (w : World) (s : ℕ) (v : SiteView) → WorldFact c w → ListsTold c w → place_at w s ≡ Some (Running v) → WasTold c (entries w.trace) s v.boot
  own_told w s v f l here le = (l.placed s (Running v) here, (let e : v.boot ≡ boot_of (entries w.trace) s = boot_so w.trace s v v.epoch (f.places s (Running v) here) in omega (arith, e)))

  links_told : (w : World) (s : ℕ) → WorldFact c w → ListsTold c w → Told_boots (WasTold c (entries w.trace)) (none_told c (entries w.trace)) (links_of w s).boot
  links_told w s f l = mapped (WasTold c (entries w.trace)) (none_told c (entries w.trace)) (link_of w s) (λ t. over t (is_cut w s t) (place_at w t) refl)
    where
      over : (t : ℕ) (b : Bool) (o : Option Place) → place_at w t ≡ o → WasTold c (entries w.trace) t (cond b 0 (worlds.boot_of o))
      over t true o e = none_told c (entries w.trace) t
      over t false None e = none_told c (entries w.trace) t
      over t false (Some (Stopped d)) e = none_told c (entries w.trace) t
      over t false (Some (Running v)) e = own_told w t v f l e

  -- ---- an event of a site ----

  pub out : (n s : ℕ) (e : Event) (v : SiteView) (w : World) → WorldFact c w → ListsTold c w → place_at w s ≡ Some (Running v) → EventTold (WasTold c (entries w.trace)) (none_told c (entries w.trace)) e → OutTold (WasTold c (entries w.trace)) (none_told c (entries w.trace)) v.boot (step c s (links_of w s) v e)
  out n s e v w f l here event = step_told (WasTold c (entries w.trace)) (none_told c (entries w.trace)) c v.boot s (links_of w s) v e (links_told w s f l) (own_told w s v f l here) event refl (l.places s (Running v) here)

  does : (n s : ℕ) (e : Event) (v : SiteView) (w : World) → place_at w s ≡ Some (Running v) → (IsRest c w.trace → ListsTold c w → EventTold (WasTold c (entries w.trace)) (none_told c (entries w.trace)) e) → Both w → Holds c (acts n s v (step c s (links_of w s) v e) w) → Lists c (acts n s v (step c s (links_of w s) v e) w)
  does n s e v w here event g = acts_cases (λ u. Holds c u → Lists c u) n s v (step c s (links_of w s) v e) w
      (happened_lists n (step c s (links_of w s) v e).sent (step c s (links_of w s) v e).told (λ now. puts s (Running (step c s (links_of w s) v e).view) now) w refl refl each g)
      (λ a. happened_lists n (step c s (links_of w s) v e).sent (step c s (links_of w s) v e).told (λ now. puts s (Running (step c s (links_of w s) v e).view) (arms a now)) w refl refl (λ rest f l up. (let k : New c w (entries (told_onto n (step c s (links_of w s) v e).told w.trace)) (step c s (links_of w s) v e).sent (puts s (Running (step c s (links_of w s) v e).view)) = each rest f l up in record { placed = k.placed; places = k.places; sent = k.sent })) g)
      (λ d a q. happened_lists n [] (cut_told s v.store d a.how a.left) (stops_with s (cut_disk v.boot v.store d a.how a.left)) w refl refl (λ rest f l up. (let k : New c w (entries (told_onto n (cut_told s v.store d a.how a.left) w.trace)) [] (puts s (Stopped (cut_disk v.boot v.store d a.how a.left))) = put s (Running v) (Stopped (cut_disk v.boot v.store d a.how a.left)) (entries (told_onto n (cut_told s v.store d a.how a.left) w.trace)) [] w here tt tt l up in record { placed = k.placed; places = k.places; sent = k.sent })) g)
    where
      each : IsRest c w.trace → WorldFact c w → ListsTold c w → Rises (entries w.trace) (entries (told_onto n (step c s (links_of w s) v e).told w.trace)) → New c w (entries (told_onto n (step c s (links_of w s) v e).told w.trace)) (step c s (links_of w s) v e).sent (puts s (Running (step c s (links_of w s) v e).view))
      each rest f l up =
          let o : OutTold (WasTold c (entries w.trace)) (none_told c (entries w.trace)) v.boot (step c s (links_of w s) v e) = out n s e v w f l here (event rest l) in
          put s (Running v) (Running (step c s (links_of w s) v e).view) (entries (told_onto n (step c s (links_of w s) v e).told w.trace)) (step c s (links_of w s) v e).sent w here (view_later c (entries w.trace) (entries (told_onto n (step c s (links_of w s) v e).told w.trace)) up (step c s (links_of w s) v e).view o.view) (sent_later c (entries w.trace) (entries (told_onto n (step c s (links_of w s) v e).told w.trace)) up (step c s (links_of w s) v e).sent o.sent) l up

  -- ---- all lines ----

  pass : (k : ℕ) (w : World) → Lists c w → Lists c (passed k w)
  pass k w g r = (let l : ListsTold c w = g r in record { placed = l.placed; places = l.places; sent = l.sent; underway = every_without _ number_of k w.underway l.underway })

  drop : (k : ℕ) (w : World) → Lists c w → Lists c (loses k w)
  drop k w g r = (let l : ListsTold c w = g r in record { placed = l.placed; places = l.places; sent = l.sent; underway = every_without _ number_of k w.underway l.underway })

  still : (n : ℕ) (told : List Told) (w : World) → Both w → Holds c (happened n [] told (λ now. now) w) → Lists c (happened n [] told (λ now. now) w)
  still n told w g = happened_lists n [] told (λ now. now) w refl refl (λ rest f l up. record { placed = l.placed; places = λ t p e. place_later c (entries w.trace) (entries (told_onto n told w.trace)) up p (l.places t p e); sent = tt }) g

  stops : (n s : ℕ) (told : List Told) (old : Place) (d : Disk) (w : World) → place_at w s ≡ Some old → Both w → Holds c (happened n [] told (stops_with s d) w) → Lists c (happened n [] told (stops_with s d) w)
  stops n s told old d w here g = happened_lists n [] told (stops_with s d) w refl refl (λ rest f l up. (let k : New c w (entries (told_onto n told w.trace)) [] (puts s (Stopped d)) = put s old (Stopped d) (entries (told_onto n told w.trace)) [] w here tt tt l up in record { placed = k.placed; places = k.places; sent = k.sent })) g

  rearmed : (a : Option Armed) (s : ℕ) (p : Place) (w : World) (t : ℕ) → place_at (rearms s a (puts s p w)) t ≡ place_at (puts s p w) t
  rearmed None s p w t = refl
  rearmed (Some a) s p w t = refl

  same_sent : (a : Option Armed) (s : ℕ) (p : Place) (w : World) → ((rearms s a (puts s p w)).sent ≡ w.sent) × ((rearms s a (puts s p w)).underway ≡ w.underway)
  same_sent None s p w = (refl, refl)
  same_sent (Some a) s p w = (refl, refl)

  booted : (n s : ℕ) (d : Disk) (b : Booted) (w : World) → place_at w s ≡ Some (Stopped d) → Both w → Holds c (boots_as n s b w) → Lists c (boots_as n s b w)
  booted n s d (Whole x a) w here g =
      let new : Place = Running (fresh x.label.boot x.copies) in
      let same : ((rearms s a (puts s new w)).sent ≡ w.sent) × ((rearms s a (puts s new w)).underway ≡ w.underway) = same_sent a s new w in
      happened_lists n [] (Shown (says.Up s x.label.boot) ∷ []) (λ now. rearms s a (puts s new now)) w same.0 same.1
      (λ rest f l up. (let k : New c w (entries (told_onto n (Shown (says.Up s x.label.boot) ∷ []) w.trace)) [] (puts s new) = put s (Stopped d) new (entries (told_onto n (Shown (says.Up s x.label.boot) ∷ []) w.trace)) [] w here (record { round = λ r e. absurd (none_some r e); epoch = λ i e. absurd (none_some i e); tables = tt }) tt l up in
      record { placed = λ t p e. k.placed t p (sym (rearmed a s new w t) ∙ e); places = λ t p e. k.places t p (sym (rearmed a s new w t) ∙ e); sent = tt })) g
  booted n s d (CutOff x how) w here g = stops n s (Shown (says.Stopped s (cause_of how)) ∷ []) (Stopped d) x w here g

  pub sent_event : (w : World) (x : Numbered) → WasSent w x → ListsTold c w → SentTold (WasTold c (entries w.trace)) (none_told c (entries w.trace)) x.packet
  sent_event w x (inl m) l = every_among _ x w.sent l.sent m
  sent_event w x (inr m) l = every_among _ x w.underway l.underway m

  pub own_needs : (w : World) (e : Event) → IsOwn e → EventTold (WasTold c (entries w.trace)) (none_told c (entries w.trace)) e
  own_needs w (Receives p) k = absurd k
  own_needs w _ k = tt

  own_event : (w : World) (l : LineWords) (s : ℕ) (e : Event) → Gives w l s e → EventTold (WasTold c (entries w.trace)) (none_told c (entries w.trace)) e
  own_event w (line.Call site process words) s (Calls p x) g = tt
  own_event w (line.Tick site) s Ticks g = tt
  own_event w (line.Part site) s Parts g = tt
  own_event w (line.Merge site) s Merges g = tt
  own_event w (line.GiveUp site) s GivesUp g = tt
  own_event w _ s e g = absurd g

  pub lists_kept : (lines : List ScheduleLine) → LinesFit c lines → RolesDo c → KeptIn c lines (λ n w. Both w)
  lists_kept lines fit roles = record {
    begins = λ n w le q g. g;
    ticks = λ n most s v w at here g. both (one.ticks n most s v w at here g.0) (does n s Ticks v w here (λ r l. tt) g);
    receives = λ n l x v w at d here sent g. both (one.receives n l x v w at d here sent g.0) (does n x.packet.to (Receives x.packet) v (passed x.number w) here (λ r k. sent_event w x sent (g.1 r)) (one.passes n x.number w g.0, pass x.number w g.1));
    passes = λ n k w g. (one.passes n k w g.0, pass k w g.1);
    drops = λ n k w g. (one.drops n k w g.0, drop k w g.1);
    budgets = λ n most w at g. both (one.budgets n most w at g.0) (still n _ w g);
    voiding = λ n l w le at void g. both (one.voiding n l w le at void g.0) (still (n + 1) _ w g);
    steps = λ n s l e v w le at gives here g. both (one.steps n s l e v w le at gives here g.0) (does (n + 1) s e v w here (λ r k. own_event w l s e gives) g);
    cutting = λ n a b w le at cut g. (one.cutting n a b w le at cut g.0, λ r. (let l : ListsTold c w = g.1 r in record { placed = l.placed; places = l.places; sent = l.sent; underway = l.underway }));
    mending = λ n a b w le at cut g. (one.mending n a b w le at cut g.0, λ r. (let l : ListsTold c w = g.1 r in record { placed = l.placed; places = l.places; sent = l.sent; underway = l.underway }));
    arming = λ n l a w le at it g. (one.arming n l a w le at it g.0, λ r. (let k : ListsTold c w = g.1 r in record { placed = k.placed; places = k.places; sent = k.sent; underway = k.underway }));
    pending = λ n w le at g. both (one.pending n w le at g.0) (still (n + 1) _ w g);
    stopping = λ n s v w le at here g. both (one.stopping n s v w le at here g.0) (stops (n + 1) s _ (Running v) (disk_of v) w here g);
    booting = λ n s d w le at here g. both (one.booting n s d w le at here g.0) (booted (n + 1) s d (boots (script_of w s) d) w here g);
  }
    where
      one : KeptIn c lines (λ n w. Holds c w)
      one = kept c lines fit roles (stays c)

      both : {w : World} → Holds c w → (Holds c w → Lists c w) → Both w
      both k f = (k, f k)

-- ---- the first world ----

site_of : (n s : ℕ) → 1 ≤ s → s ≤ sites_max → s ≤ n → is_site n s ≡ true
site_of n s low high few = grind (arith, nat_tests)

pub first_lists : (c : Config) → Lists c (first_world c)
first_lists c r = record {
  placed = first_places c (λ s p. is_site c.sites s ≡ true) (λ s own. site_of c.sites s own.0.0 own.0.1 own.1);
  places = first_places c (λ s. PlaceTold c []) (λ s own. record { round = λ r q. absurd (none_some r q); epoch = λ i q. absurd (none_some i q); tables = tt });
  sent = tt;
  underway = tt;
}
