-- The place of a refusal 6 to 9 is that of the first offending token: what stands before it can be continued so that the walk accepts,
-- and no structure that keeps the token is accepted.
use Rattle.std.specs.Prelude.{◌≡◌, Bool, false, not, get_or, take, drop, eqb, leb}
use Rattle.std.proofs.Math.Path.{refl, sym, ap}
use Rattle.std.proofs.Common.{◌∙◌, subst, inl, inr, length-take, ext_get_or, get_or-take, length-take-le}
use Rattle.std.proofs.Math.Bool.{true}
use mathlib.Core.List.Memᴰ
use mathlib.Core.List.{List, [], ◌∷◌, ◌++◌, append_assoc}
use Prim.Native.Nat.{ℕ, zero, suc, ◌+◌, ◌≤◌, ◌<◌, min}
use native.Mathlib.Omega.{arith}
use Rattle.std.proofs.Math.ListN.{length, length-append, length-drop, get_or-append}
use Rattle.std.proofs.Math.Seq.{get_or-drop}
use borrow.Author.Tests.{eq-eqb, ne_eqb}
use Rattle.rules.specs.Ceilings.{open_ceiling, node_ceiling}
use Rattle.rules.specs.Octets.{Bytes, word_at, be32, nul_in, padded, part}
use Rattle.rules.specs.Names.{node_name_reads}
use Rattle.rules.specs.Outcome.{Verdict, refuses, passes, ◌then◌}
use Rattle.rules.specs.Blob.{Block, block_of, header_judged, block_in}
use Rattle.rules.specs.Tokens.{tagged, token_at, following, tokens_from, tokens}
use Rattle.rules.specs.Events.{Walk, at_start, Step, stop, done, go, node_name_at, property_reads, opening, closing, holding, ending, on_token, after, judge, shape_judged}
use Rattle.rules.specs.Tree.{Tree, rest, doubled_judged, words_judged, shared_judged}
use Rattle.rules.specs.Reader.{tree_read, blob_judged}
use Rattle.rules.specs.Writer.{begin_bytes, end_bytes}
use Rattle.rules.specs.Listing.{◌∈◌}
use Rattle.rules.specs.Exactly.{KeepsToken, Offends, FirstOffending}
use Rattle.rules.specs.declared.Token.{Token}
use Rattle.rules.specs.declared.Token.TheVariants.{Item, End, Cut}
use Rattle.rules.specs.declared.Kind.{Kind}
use Rattle.rules.specs.declared.Kind.TheVariants.{Begin, EndNode, Prop, Nop}
use Rattle.rules.proofs.Laws.Tests.{by_test, by_le}
use Rattle.rules.proofs.Laws.Verdicts.{gives_refuses, refused_same, then_cases}
use Rattle.rules.proofs.Laws.Octets.{length_part, length_be32, nul_stop, nul_on}
use Rattle.rules.proofs.Laws.Tokens.{TagSeen, Seen, token_seen, item_ahead, if_by}
use Rattle.rules.proofs.Laws.Events.{opening_root, opening_inner, closing_none, closing_some, holding_none, holding_some, ending_none, ending_some, judged_at, judged_all, judged_item, judged_end, judged_cut}
use Rattle.rules.proofs.Laws.Writer.{length_begin, length_end}
use Rattle.rules.proofs.Laws.Encoded.{tok, begin_is, prop_is, end_written, last_written, begin_written}
use Rattle.rules.proofs.Laws.Secrecy.Tokens.{Clear, word_same}
use Rattle.rules.proofs.Laws.Places.{Within, header_within}
use Rattle.rules.proofs.Laws.Faults.Doubled.{doubled_exactly}
use Rattle.rules.proofs.Laws.Faults.Words.{words_exactly}
use Rattle.rules.proofs.Laws.Faults.Shared.{shared_exactly}

-- ---- the same bytes in front

front_length : (s c : Bytes) (n : ℕ) → n ≤ length s → take n c ≡ take n s → n ≤ length c
front_length s c n h e =
    let l : min n (length c) ≡ n = sym (length-take n c) ∙ ap length e ∙ length-take-le n s h in
    omega arith

front_clear : (s c : Bytes) (n : ℕ) → take n c ≡ take n s → Clear s c 0 n
front_clear s c n e x p q = sym (get_or-take n s x 0 q) ∙ ap (λ (l : Bytes). get_or l x 0) (sym e) ∙ get_or-take n c x 0 q

-- where the first NUL stands is known by the bytes up to it
nul_front : (x y : Bytes) → nul_in x < length x → nul_in x < length y → ((i : ℕ) → i ≤ nul_in x → get_or x i 0 ≡ get_or y i 0) → nul_in y ≡ nul_in x
nul_front [] y p q h = absurd (let z : ⊥ = omega arith in z)
nul_front (a ∷ x) [] p q h = absurd (let z : ⊥ = omega arith in z)
nul_front (a ∷ x) (b ∷ y) p q h =
    let e : a ≡ b = h 0 (omega arith) in
    by_test (eqb a 0)
    (λ t. nul_stop b y (rw e at t) ∙ sym (nul_stop a x t))
    (λ t. let n = nul_on a x t in
    nul_on b y (rw e at t) ∙ ap suc (nul_front x y (omega arith) (omega arith) (λ i k. h (suc i) (omega arith))) ∙ sym n)

module _ (s c : Bytes) (n : ℕ) (i : n ≤ length s) (j : n ≤ length c) (clear : Clear s c 0 n) where
  part_front : (v m : ℕ) → v + m ≤ n → part c v m ≡ part s v m
  part_front v m h =
      let ls : length (part s v m) ≡ m = length_part s v m (omega arith) in
      let lc : length (part c v m) ≡ m = length_part c v m (omega arith) in
      ext_get_or 0 (part c v m) (part s v m) (lc ∙ sym ls)
      (λ x p. let q : x < m = omega arith in
      get_or-take m (drop v c) x 0 q
      ∙ get_or-drop v c x 0
      ∙ sym (clear (v + x) (omega arith) (omega arith))
      ∙ sym (get_or-drop v s x 0)
      ∙ sym (get_or-take m (drop v s) x 0 q))

  word_front : (at : ℕ) → at + 4 ≤ n → word_at c at ≡ word_at s at
  word_front at h = sym (word_same s c at (λ x p q. clear x (omega arith) (omega arith)))

  -- an item that ends there
  item_seen : (at : ℕ) (kind : Kind) (next : ℕ) → next ≤ n → Seen s at (Item kind next) → token_at c at ≡ Item kind next
  unfolding tagged
  item_seen at (Begin len) next h r =
      let z = r.ends in
      let m = r.name in
      let ls = length-drop (at + 4) s in
      let lc = length-drop (at + 4) c in
      let u : nul_in (drop (at + 4) c) ≡ nul_in (drop (at + 4) s) =
      nul_front (drop (at + 4) s) (drop (at + 4) c) (omega arith) (omega arith)
      (λ k l. get_or-drop (at + 4) s k 0 ∙ clear (at + 4 + k) (omega arith) (omega arith) ∙ sym (get_or-drop (at + 4) c k 0)) in
      tok c at 1 (omega arith) (word_front at (omega arith) ∙ r.tag)
      ∙ begin_is c (at + 4) len (u ∙ sym m) (omega arith)
      ∙ ap (λ (k : ℕ). Item (Begin len) k) (sym z)
  item_seen at EndNode next h r =
      let z = r.ends in
      tok c at 2 (omega arith) (word_front at (omega arith) ∙ r.tag) ∙ ap (λ (k : ℕ). Item EndNode k) (sym z)
  item_seen at (Prop len name value) next h r =
      let z = r.ends in
      let b = r.begins in
      tok c at 3 (omega arith) (word_front at (omega arith) ∙ r.tag)
      ∙ prop_is c (at + 4) len name (word_front (at + 4) (omega arith) ∙ sym r.size) (word_front (at + 4 + 4) (omega arith) ∙ sym r.offset) (omega arith)
      ∙ rw (z, b)
  item_seen at Nop next h r =
      let z = r.ends in
      tok c at 4 (omega arith) (word_front at (omega arith) ∙ r.tag) ∙ ap (λ (k : ℕ). Item Nop k) (sym z)

  -- and what the walk makes of it
  on_front : (place : ℕ) (strings : Bytes) (w : Walk) (at : ℕ) (kind : Kind) (next : ℕ) → next ≤ n → Seen s at (Item kind next)
      → on_token (block_of place c strings) w at (Item kind next) ≡ on_token (block_of place s strings) w at (Item kind next)
  on_front place strings w at (Begin len) next h r =
      let z = r.ends in ap (opening w) (part_front (at + 4) len (omega arith))
  on_front place strings w at EndNode next h r = refl
  on_front place strings w at (Prop len name value) next h r = refl
  on_front place strings w at Nop next h r = refl

end_seen : (c : Bytes) (at : ℕ) → at + 4 ≤ length c → word_at c at ≡ 9 → token_at c at ≡ End
unfolding tagged
end_seen c at h e = tok c at 9 h e

-- ---- walks that a token goes on with

-- where a node is open, one was opened
abbrev Sound : Walk → Type 0
Sound w = 0 < length w.stack → 0 < w.count

-- a step that goes on with a sound walk, if it goes on
abbrev Onward : Step → Type 0
Onward (stop number) = Unit {0}
Onward done = Unit {0}
Onward (go w) = Sound w

opening_onward : (w : Walk) (name : Bytes) → Onward (opening w name)
opening_onward w name = by_le 1 (length w.stack)
    (λ h. subst Onward (sym (opening_inner w name h))
    (if_by Onward (not (node_name_reads name)) (λ _. tt)
    (λ _. if_by Onward (leb open_ceiling (length w.stack)) (λ _. tt) (λ _. if_by Onward (leb node_ceiling w.count) (λ _. tt) (λ _ _. omega arith)))))
    (λ h. subst Onward (sym (opening_root w name (omega arith)))
    (if_by Onward (not (eqb w.count 0)) (λ _. tt) (λ _. if_by Onward (not (eqb (length name) 0)) (λ _. tt) (λ _ _. omega arith))))

closing_onward : (w : Walk) → Sound w → Onward (closing w)
closing_onward w k = by_le 1 (length w.stack)
    (λ h. subst Onward (sym (closing_some w h)) (λ _. k h))
    (λ h. subst Onward (sym (closing_none w (omega arith))) tt)

holding_onward : (w : Walk) (reads : Bool) → Sound w → Onward (holding w reads)
holding_onward w reads k = by_le 1 (length w.stack)
    (λ h. subst Onward (sym (holding_some w reads h)) (if_by Onward w.ended (λ _. tt) (λ _. if_by Onward (not reads) (λ _. tt) (λ _. k))))
    (λ h. subst Onward (sym (holding_none w reads (omega arith))) tt)

token_onward : (b : Block) (w : Walk) (at : ℕ) (kind : Kind) (next : ℕ) → Sound w → Onward (on_token b w at (Item kind next))
token_onward b w at (Begin len) next k = opening_onward w (node_name_at b.structure at len)
token_onward b w at EndNode next k = closing_onward w k
token_onward b w at (Prop len name value) next k = holding_onward w (property_reads b.strings name) k
token_onward b w at Nop next k = k

-- END never goes on
abbrev Halts : Step → Type 0
Halts (stop number) = Unit {0}
Halts done = Unit {0}
Halts (go w) = ⊥

ending_halts : (w : Walk) (last : Bool) → Halts (ending w last)
ending_halts w last = by_le 1 (length w.stack)
    (λ h. subst Halts (sym (ending_some w last h)) tt)
    (λ h. subst Halts (sym (ending_none w last (omega arith))) (if_by Halts (eqb w.count 0) (λ _. tt) (λ _. if_by Halts (not last) (λ _. tt) (λ _. tt))))

-- ---- what can follow

-- n END_NODEs, and END
unfoldable closers : ℕ → Bytes
closers zero = be32 9
closers (suc n) = end_bytes ++ closers n

module _ (place : ℕ) (strings : Bytes) where
  closed_all_lem : (n : ℕ) (W p : Bytes) (at : ℕ) (w : Walk) → W ≡ p ++ closers n → length p ≡ at → length w.stack ≡ n → 0 < w.count
      → judged_at (block_of place W strings) w at ≡ passes
  unfolding closers
  closed_all_lem zero W p at w e l d c =
      let b : Block = block_of place W strings in
      let m : length W ≡ length p + length (be32 9) = ap length e ∙ length-append p (be32 9) in
      let q : at + 4 ≡ length W = omega (arith, length_be32 9) in
      let t : ending w (eqb (at + 4) (length W)) ≡ done =
      ending_none w (eqb (at + 4) (length W)) d ∙ rw (ne_eqb w.count 0 (λ (z : w.count ≡ 0). omega arith), eq-eqb (at + 4) (length W) q) in
      judged_end b at (omega arith) w (ap (λ (x : Bytes). token_at x at) e ∙ last_written p at l)
      ∙ ap (after (λ (v : Walk). judge b v []) (place + at)) t
  closed_all_lem (suc n) W p at w e l d c =
      let b : Block = block_of place W strings in
      let m : length W ≡ length p + length (end_bytes ++ closers n) = ap length e ∙ length-append p (end_bytes ++ closers n) in
      let v : Walk = record { stack = rest w.stack; count = w.count; ended = true } in
      judged_item b at (omega arith) w EndNode (at + 4) (ap (λ (x : Bytes). token_at x at) e ∙ end_written p (closers n) at l)
      ∙ ap (after (λ (u : Walk). judged_at b u (at + 4)) (place + at)) (closing_some w (omega arith))
      ∙ closed_all_lem n W (p ++ end_bytes) (at + 4) v (e ∙ sym (append_assoc p end_bytes (closers n))) (length-append p end_bytes ∙ omega (arith, length_end))
      (popped w.stack n d) c
    where
      popped : (l : List ℕ) (k : ℕ) → length l ≡ suc k → length (rest l) ≡ k
      popped [] k h = absurd (let z : ⊥ = omega arith in z)
      popped (i ∷ l) k h = omega arith

  -- where no node was opened, the root, opened and closed
  rooted : (W p : Bytes) (at : ℕ) (w : Walk) → W ≡ p ++ (begin_bytes [] ++ closers 1) → length p ≡ at → length w.stack ≡ 0 → w.count ≡ 0
      → judged_at (block_of place W strings) w at ≡ passes
  rooted W p at w e l d c =
      let b : Block = block_of place W strings in
      let r : Bytes = closers 1 in
      let plain : ◌∈◌ {A = ℕ} 0 [] → ⊥ = λ m. Memᴰ.not-nil m in
      let m : length W ≡ length p + length (begin_bytes [] ++ r) = ap length e ∙ length-append p (begin_bytes [] ++ r) in
      let to : ℕ = at + 4 + padded (0 + 1) in
      let v : Walk = record { stack = w.count ∷ w.stack; count = suc w.count; ended = false } in
      let t : opening w (node_name_at W at 0) ≡ go v = opening_root w (node_name_at W at 0) d ∙ rw (eq-eqb w.count 0 c) in
      judged_item b at (omega arith) w (Begin 0) to (ap (λ (x : Bytes). token_at x at) e ∙ begin_written p r [] at l plain)
      ∙ ap (after (λ (u : Walk). judged_at b u to) (place + at)) t
      ∙ closed_all_lem 1 W (p ++ begin_bytes []) to v (e ∙ sym (append_assoc p (begin_bytes []) r)) (length-append p (begin_bytes []) ∙ omega (arith, length_begin []))
      (omega arith) (omega arith)

  -- behind any walk that is sound something can follow
  follows : (p : Bytes) (w : Walk) → Sound w → (more : Bytes) × (judged_at (block_of place (p ++ more) strings) w (length p) ≡ passes)
  follows p w k = by_le 1 w.count
      (λ h. (closers (length w.stack), closed_all_lem (length w.stack) (p ++ closers (length w.stack)) p (length p) w refl refl refl h))
      (λ h. (begin_bytes [] ++ closers 1, rooted (p ++ (begin_bytes [] ++ closers 1)) p (length p) w refl refl (none k h) (omega arith)))
    where
      none : Sound w → w.count < 1 → length w.stack ≡ 0
      none k h = by_le 1 (length w.stack) (λ l. absurd (let z : ⊥ = omega (arith, k l) in z)) (λ l. omega arith)

-- ---- where the walk stops

module _ (place : ℕ) (strings s : Bytes) where
  abbrev host : Block
  host = block_of place s strings

  -- from a place on the walk comes to another, where the token stops it; and so it does in any structure with the same bytes before that
  record Came (w : Walk) (at number refused : ℕ) : Type 0 where
    to : ℕ
    walk : Walk
    here : refused ≡ place + to
    inside : to ≤ length s
    later : at ≤ to
    sound : Sound walk
    stops : on_token host walk to (token_at s to) ≡ stop number
    same : (c : Bytes) → to ≤ length c → Clear s c 0 to → judged_at (block_of place c strings) w at ≡ judged_at (block_of place c strings) walk to

  abbrev Comes : ℕ → Type 0
  Comes fuel =
      (at : ℕ) (w : Walk) → at ≤ length s → length s < fuel + at → Sound w → (number refused : ℕ) → judge host w (tokens_from fuel s at) ≡ refuses number refused
      → Came w at number refused

  -- it stops here
  stopped : (at : ℕ) (w : Walk) → at ≤ length s → Sound w → (k : Token) → token_at s at ≡ k → (n number refused : ℕ) → on_token host w at k ≡ stop n
      → ◌≡◌ {A = Verdict} (refuses n (place + at)) (refuses number refused) → Came w at number refused
  stopped at w i z k e n number refused t h =
      let r = refused_same n number (place + at) refused h in
      record {
        to = at;
        walk = w;
        here = sym r.1;
        inside = i;
        later = omega arith;
        sound = z;
        stops = ap (on_token host w at) e ∙ t ∙ ap stop r.0;
        same = λ c l q. refl;
      }

  -- it goes on behind an item
  goes : (fuel : ℕ) → Comes fuel → (at : ℕ) (w : Walk) → at ≤ length s → length s < suc fuel + at → Sound w → (kind : Kind) (next : ℕ)
      → token_at s at ≡ Item kind next → (v : Walk) → on_token host w at (Item kind next) ≡ go v → (number refused : ℕ)
      → judge host v (tokens_from fuel s next) ≡ refuses number refused → Came w at number refused
  goes fuel ih at w i f z kind next e v t number refused h =
      let seen : Seen s at (Item kind next) = subst (Seen s at) e (token_seen s at) in
      let a = item_ahead s at (Item kind next) kind next (sym e) refl in
      let l = a.0 in
      let m = a.1 in
      let r = ih next v m (omega arith) (subst Onward t (token_onward host w at kind next z)) number refused h in
      let y = r.later in
      record {
        to = r.to;
        walk = r.walk;
        here = r.here;
        inside = r.inside;
        later = omega arith;
        sound = r.sound;
        stops = r.stops;
        same = λ c p q.
            judged_item (block_of place c strings) at (omega arith) w kind next (item_seen s c r.to r.inside p q at kind next y seen)
            ∙ ap (after (λ (u : Walk). judged_at (block_of place c strings) u next) (place + at)) (on_front s c r.to r.inside p q place strings w at kind next y seen ∙ t)
            ∙ r.same c p q;
      }

  halted : (X : Type 0) (b : Step) (v : Walk) → Halts b → b ≡ go v → X
  halted X b v h e = absurd (subst Halts e h)

  came_by : (fuel : ℕ) → Comes fuel → (at : ℕ) (w : Walk) → at ≤ length s → length s < suc fuel + at → Sound w → (k : Token) → token_at s at ≡ k
      → (b : Step) → on_token host w at k ≡ b → (number refused : ℕ)
      → after (λ (v : Walk). judge host v (following (tokens_from fuel s) k)) (place + at) b ≡ refuses number refused → Came w at number refused
  came_by fuel ih at w i f z k e (stop n) t number refused h = stopped at w i z k e n number refused t h
  came_by fuel ih at w i f z k e done t number refused h = gives_refuses tt number refused (sym h)
  came_by fuel ih at w i f z (Item kind next) e (go v) t number refused h = goes fuel ih at w i f z kind next e v t number refused h
  came_by fuel ih at w i f z End e (go v) t number refused h =
      halted (Came w at number refused) (ending w (eqb (at + 4) (length s))) v (ending_halts w (eqb (at + 4) (length s))) t
  came_by fuel ih at w i f z Cut e (go v) t number refused h = halted (Came w at number refused) (stop 6) v tt t

  came : (fuel : ℕ) → Comes fuel
  unfolding tokens_from judge
  came zero at w i f z number refused h = absurd (let x : ⊥ = omega arith in x)
  came (suc fuel) at w i f z number refused h =
      came_by fuel (came fuel) at w i f z (token_at s at) refl (on_token host w at (token_at s at)) refl number refused h

  came_all : (number refused : ℕ) → shape_judged host ≡ refuses number refused → Came at_start 0 number refused
  unfolding shape_judged tokens
  came_all number refused h = came (suc (length s)) 0 at_start (omega arith) (omega arith) (λ l. absurd (let x : ⊥ = omega arith in x)) number refused h

  -- ---- what offends

  -- a structure that keeps the token
  stays : (number at : ℕ) (w : Walk) → at ≤ length s → (c : Bytes) → (k : Token) → token_at s at ≡ k → KeepsToken s c at k → on_token host w at k ≡ stop number
      → (at ≤ length c) × Clear s c 0 at × (judged_at (block_of place c strings) w at ≡ refuses number (place + at))
  stays number at w i c (Item kind next) e h t =
      let seen : Seen s at (Item kind next) = subst (Seen s at) e (token_seen s at) in
      let a = item_ahead s at (Item kind next) kind next (sym e) refl in
      let l = a.0 in
      let j : next ≤ length c = front_length s c next a.1 h in
      let q : Clear s c 0 next = front_clear s c next h in
      let b : Block = block_of place c strings in
      let o : next ≤ next = omega arith in (
        omega arith,
        λ x y r. q x y (omega arith),
        judged_item b at (omega arith) w kind next (item_seen s c next a.1 j q at kind next o seen)
            ∙ ap (after (λ (u : Walk). judged_at b u next) (place + at)) (on_front s c next a.1 j q place strings w at kind next o seen ∙ t),
      )
  stays number at w i c End e h t =
      let seen : TagSeen s at (at + 4) 9 = subst (Seen s at) e (token_seen s at) in
      let j : at + 4 ≤ length c = front_length s c (at + 4) seen.inside h.0 in
      let q : Clear s c 0 (at + 4) = front_clear s c (at + 4) h.0 in
      let b : Block = block_of place c strings in (
        omega arith,
        λ x y r. q x y (omega arith),
        judged_end b at (omega arith) w (end_seen c at j (word_front s c (at + 4) seen.inside j q at (omega arith) ∙ seen.tag))
            ∙ ap (after (λ (u : Walk). judge b u []) (place + at)) (ap (λ (n : ℕ). ending w (eqb (at + 4) n)) h.1 ∙ t),
      )
  stays number at w i c Cut e h t =
      let j : at ≤ length c = front_length s c at i h.0 in
      let b : Block = block_of place c strings in
      (j, front_clear s c at h.0, judged_cut b at j w h.1 ∙ ap (after (λ (u : Walk). judge b u []) (place + at)) t)

  -- THE WALK STOPS AT THE FIRST OFFENDING TOKEN
  pub stops_first : (number refused : ℕ) → shape_judged host ≡ refuses number refused → (at : ℕ) × (refused ≡ place + at) × Offends host number at
  stops_first number refused h =
      let r = came_all number refused h in
      let p : Bytes = take r.to s in
      let l : length p ≡ r.to = length-take-le r.to s r.inside in
      let f = follows place strings p r.walk r.sound in
      let W : Bytes = p ++ f.0 in
      let n : length W ≡ length p + length f.0 = length-append p f.0 in
      let q : Clear s W 0 r.to = λ x y z. sym (get_or-append p f.0 0 x (omega arith) ∙ get_or-take r.to s x 0 z) in (
        r.to,
        r.here,
        record {
          inside = r.inside;
          more = f.0;
          before = judged_all (block_of place W strings) ∙ r.same W (omega arith) q ∙ rw l at f.1;
          token = λ c k.
              let g = stays number r.to r.walk r.inside c (token_at s r.to) refl k r.stops in
              judged_all (block_of place c strings) ∙ r.same c g.0 g.1 ∙ g.2;
        },
      )

-- ---- which refusals are the walk's

abbrev Early : (number place : ℕ) → Type 0
Early number place = number ≤ 5

-- behind a shape that passes only 10, 11 and 12 refuse
late : (blob : Bytes) → shape_judged (block_in blob) ≡ passes → (number place : ℕ)
    → (doubled_judged (tree_read blob) then words_judged (tree_read blob) then shared_judged (tree_read blob)) ≡ refuses number place → 10 ≤ number
late blob s number place e =
    let t : Tree = tree_read blob in
    elim (then_cases (doubled_judged t) (words_judged t then shared_judged t) number place e) [
      | inl f ↦ let z : number ≡ 10 = (((doubled_exactly blob s).1 number place).0 f).0 in omega arith
      | inr f ↦ elim (then_cases (words_judged t) (shared_judged t) number place f.1) [
        | inl g ↦ let z : number ≡ 11 = (((words_exactly blob).1 number place).0 g).0 in omega arith
        | inr g ↦ let z : number ≡ 12 = (((shared_exactly blob).1 number place).0 g.1).0 in omega arith
      ]
    ]

shape_refuses : (blob : Bytes) (number place : ℕ) → blob_judged blob ≡ refuses number place → 6 ≤ number → number ≤ 9
    → shape_judged (block_in blob) ≡ refuses number place
unfolding blob_judged
shape_refuses blob number place e six nine =
    let t : Tree = tree_read blob in
    let rest : Verdict = doubled_judged t then words_judged t then shared_judged t in
    elim (then_cases (header_judged blob) (shape_judged (block_in blob) then rest) number place e) [
      | inl f ↦ let z : number ≤ 5 = subst (Within Early) f (header_within Early blob (λ n h. h)) in absurd (omega arith)
      | inr f ↦ elim (then_cases (shape_judged (block_in blob)) rest number place f.1) [
        | inl g ↦ g
        | inr g ↦ let z = late blob g.0 number place g.1 in absurd (omega arith)
      ]
    ]

-- A REFUSAL 6 TO 9 STANDS AT THE FIRST OFFENDING TOKEN
pub first_offending : FirstOffending
unfolding block_in
first_offending blob number place e six nine =
    let b : Block = block_in blob in
    stops_first b.place b.strings b.structure number place (shape_refuses blob number place e six nine)
