-- The flag byte is judged after the locktime: with any flag, a reading is that with flag 0 as far as that one goes. Where that one finishes, it is
-- refused with 7 at 4 for a flag above 1, and goes on with the witnesses for flag 1.
use Prim.Native.Nat.{ℕ, zero, suc, ◌+◌, ◌<◌, ◌≤◌}
use mathlib.Core.Path.{◌≡◌, refl, sym, ◌∙◌, ap, ap₂}
use mathlib.Core.Bool.{Bool, true, false, cond, ◌&&◌, ◌||◌}
use mathlib.Core.List.{List, [], ◌∷◌, ◌++◌, append_assoc, append-nil}
use mathlib.Core.Logic.{◌↔◌}
use native.Mathlib.Nat.{add_assoc, add-zero, zero-add}
use native.Mathlib.Omega.{arith}
use lib.Dec.{leb, eqb}
use lib.ListN.{length, take, drop, get_or, length-take}
use lib.Seq.{drop-drop, get_or-take}
use borrow.Author.Tests.{ne_eqb, leb-true, leb-false}
use Rattle.layout.specs.Number.{Order, little, big, value, Bytes}
use Rattle.layout.specs.Layout.{Layout, number, opaque, enter, refuse, accept, Answer, finished, more, refused, Reading, reading, behind, noted, Entry, Hidden, txid, blinding_nonce, entropy, asset_part, nonce_part, commitment_part, script_body, run}
use Rattle.layout.specs.Transaction.{Head, Room, limit, within, further_at, number_at, opaque_at, announced, least, compact_at, count_at, body_at, value_at, prefixed_at, each, alone, flag_bit, asset_prefix, nonce_prefix, seen, issuance_at, input_at, output_at, input_witness_at, output_witness_at, transaction}
use Rattle.layout.specs.Outcome.{Sizes, room_of, zeros, outcome, reading_of, partial}
use Rattle.layout.specs.Beginnings.{seven_of}
use Rattle.layout.specs.Refusals.{Refusal, fixed_past, further_past, body_past, not_shortest, too_many, not_listed, null_issuance, flag_above, all_empty}
use Rattle.layout.proofs.Number.{value_one}
use Rattle.layout.proofs.Reading.{by_cases, field_run, field_there, field_short, refused_not_more}
use Rattle.layout.proofs.Trace.{Event, shown, enters, met, field_trace, trace, trace_there, trace_short}
use Rattle.layout.proofs.Codes.{after, field_run_lem}
use Rattle.layout.proofs.Refused.{refusal_shown}

-- One layout goes as another up to its end, and then on.
module _ (onward : Head → Layout Head) where
  data Until : Layout Head → Layout Head → Type 0 where
    field : {o : Order} {w : ℕ} {k k' : ℕ → Layout Head} → ((v : ℕ) → Until (k v) (k' v)) → Until (number o w k) (number o w k')
    skip : {h : Hidden} {w : ℕ} {l l' : Layout Head} → Until l l' → Until (opaque h w l) (opaque h w l')
    note : {e : Entry} {l l' : Layout Head} → Until l l' → Until (enter e l) (enter e l')
    stop : {n p : ℕ} → Until (refuse n p) (refuse n p)
    close : {h : Head} → Until (accept h) (onward h)

  -- a reading that goes on where it has finished, over what it has not taken
  abbrev pub goes_on : Answer Head → ℕ → List Entry → List ℕ → Reading Head
  goes_on (finished h) n es xs = after n es (run (onward h) (drop n xs))
  goes_on more n es xs = reading more n es
  goes_on (refused m p) n es xs = reading (refused m p) n es

  abbrev pub further : Reading Head → List ℕ → Reading Head
  further r xs = goes_on r.answer r.taken r.log xs

  behind_further : (w n : ℕ) (a : Answer Head) (es : List Entry) (xs : List ℕ) → behind w (goes_on a n es (drop w xs)) ≡ goes_on a (w + n) es xs
  behind_further w n (finished h) es xs =
      let r : List ℕ → Reading Head = λ ys. run (onward h) ys in
      λ j. reading (r (drop-drop n w xs j)).answer (sym (add_assoc w n (r (drop-drop n w xs j)).taken) j) (es ++ (r (drop-drop n w xs j)).log)
  behind_further w n more es xs = refl
  behind_further w n (refused m p) es xs = refl

  noted_further : (e : Entry) (a : Answer Head) (n : ℕ) (es : List Entry) (xs : List ℕ) → noted e (goes_on a n es xs) ≡ goes_on a n (e ∷ es) xs
  noted_further e (finished h) n es xs = refl
  noted_further e more n es xs = refl
  noted_further e (refused m p) n es xs = refl

  fieldly : (w : ℕ) (t : Bool) (r s : Reading Head) (xs : List ℕ) → s ≡ further r (drop w xs) → elim t [ true ↦ behind w s | false ↦ reading more (length xs) [] ] ≡ further (elim t [ true ↦ behind w r | false ↦ reading more (length xs) [] ]) xs
  fieldly w true r s xs e = ap (behind w) e ∙ behind_further w r.taken r.answer r.log xs
  fieldly w false r s xs e = refl

  until_run : {l l' : Layout Head} → Until l l' → (xs : List ℕ) → run l' xs ≡ further (run l xs) xs
  unfolding run
  until_run (field {o = o} {w = w} {k = k} {k' = k'} u) xs = fieldly w (leb w (length xs)) (run (k (value o (take w xs))) (drop w xs)) (run (k' (value o (take w xs))) (drop w xs)) xs (until_run (u (value o (take w xs))) (drop w xs))
  until_run (skip {w = w} {l = l} {l' = l'} u) xs = fieldly w (leb w (length xs)) (run l (drop w xs)) (run l' (drop w xs)) xs (until_run u (drop w xs))
  until_run (note {e = e} {l = l} u) xs = ap (noted e) (until_run u xs) ∙ noted_further e (run l xs).answer (run l xs).taken (run l xs).log xs
  until_run stop xs = refl
  until_run (close {h = h}) xs = let r = run (onward h) xs in λ j. reading r.answer (sym (zero-add r.taken) j) r.log

  -- what it does in order: the other's trace, and then that of going on
  abbrev pub traces_on : Answer Head → ℕ → List Event → List ℕ → List Event
  traces_on (finished h) n t xs = t ++ trace (onward h) (drop n xs)
  traces_on more n t xs = t
  traces_on (refused m p) n t xs = t

  behind_traces : (ms : List Event) (w n : ℕ) (a : Answer Head) (t : List Event) (xs : List ℕ) → ms ++ traces_on a n t (drop w xs) ≡ traces_on a (w + n) (ms ++ t) xs
  behind_traces ms w n (finished h) t xs = sym (append_assoc ms t (trace (onward h) (drop n (drop w xs)))) ∙ ap (λ (l : List ℕ). (ms ++ t) ++ trace (onward h) l) (drop-drop n w xs)
  behind_traces ms w n more t xs = refl
  behind_traces ms w n (refused m p) t xs = refl

  field_traces : (hid : Bool) (w : ℕ) (xs : List ℕ) (r : Reading Head) (t u : List Event) → u ≡ traces_on r.answer r.taken t (drop w xs) → field_trace hid w xs u ≡ traces_on (field_run w xs r).answer (field_run w xs r).taken (field_trace hid w xs t) xs
  field_traces hid w xs r t u e =
      by_cases (leb w (length xs))
      (λ q. let h = leb-true w (length xs) q in
      trace_there hid w xs u h
      ∙ ap (λ (l : List Event). met hid (take w xs) ++ l) e
      ∙ behind_traces (met hid (take w xs)) w r.taken r.answer t xs
      ∙ sym (ap₂ (λ (s : Reading Head) (l : List Event). traces_on s.answer s.taken l xs) (field_there w xs r h) (trace_there hid w xs t h)))
      (λ q. let h = leb-false w (length xs) q in
      trace_short hid w xs u h ∙ sym (ap₂ (λ (s : Reading Head) (l : List Event). traces_on s.answer s.taken l xs) (field_short w xs r h) (trace_short hid w xs t h)))

  noted_traces : (e : Event) (a : Answer Head) (n : ℕ) (t : List Event) (xs : List ℕ) → e ∷ traces_on a n t xs ≡ traces_on a n (e ∷ t) xs
  noted_traces e (finished h) n t xs = refl
  noted_traces e more n t xs = refl
  noted_traces e (refused m p) n t xs = refl

  until_trace : {l l' : Layout Head} → Until l l' → (xs : List ℕ) → trace l' xs ≡ traces_on (run l xs).answer (run l xs).taken (trace l xs) xs
  unfolding run trace
  until_trace (field {o = o} {w = w} {k = k} {k' = k'} u) xs = field_traces false w xs (run (k (value o (take w xs))) (drop w xs)) (trace (k (value o (take w xs))) (drop w xs)) _ (until_trace (u (value o (take w xs))) (drop w xs))
  until_trace (skip {w = w} {l = l} u) xs = field_traces true w xs (run l (drop w xs)) (trace l (drop w xs)) _ (until_trace u (drop w xs))
  until_trace (note {e = e} {l = l} u) xs = ap (λ (t : List Event). enters e ∷ t) (until_trace u xs) ∙ noted_traces (enters e) (run l xs).answer (run l xs).taken (trace l xs) xs
  until_trace stop xs = refl
  until_trace close xs = refl

  cond_until : (t : Bool) {l m l' m' : Layout Head} → Until l l' → Until m m' → Until (cond t l m) (cond t l' m')
  cond_until true u v = u
  cond_until false u v = v

  within_until : (place end : ℕ) {l l' : Layout Head} → Until l l' → Until (within place end l) (within place end l')
  unfolding within
  within_until place end u = cond_until (leb end limit) u stop

  abbrev Then₂ : (ℕ → ℕ → Layout Head) → (ℕ → ℕ → Layout Head) → Type 0
  Then₂ k k' = (n at : ℕ) → Until (k n at) (k' n at)

  abbrev Then₁ : (ℕ → Layout Head) → (ℕ → Layout Head) → Type 0
  Then₁ k k' = (at : ℕ) → Until (k at) (k' at)

  further_until : (start at : ℕ) (o : Order) (w : ℕ) {k k' : ℕ → ℕ → Layout Head} → Then₂ k k' → Until (further_at start at o w k) (further_at start at o w k')
  unfolding further_at
  further_until start at o w u = within_until start (at + w) (field λ v. u v (at + w))

  opaque_until : (at : ℕ) (h : Hidden) (w : ℕ) {k k' : ℕ → Layout Head} → Then₁ k k' → Until (opaque_at at h w k) (opaque_at at h w k')
  unfolding opaque_at
  opaque_until at h w u = within_until at (at + w) (skip (u (at + w)))

  compact_until : (at : ℕ) {k k' : ℕ → ℕ → Layout Head} → Then₂ k k' → Until (compact_at at k) (compact_at at k')
  unfolding compact_at
  compact_until at u =
      further_until at at little 1 λ first at'.
      cond_until (leb first 252) (u first at')
      (further_until at at' little (announced first) λ n at''. cond_until (leb (least (announced first)) n) (u n at'') stop)

  count_until : (at left : ℕ) {k k' : ℕ → ℕ → Layout Head} → Then₂ k k' → Until (count_at at left k) (count_at at left k')
  unfolding count_at
  count_until at left u = compact_until at λ n at'. cond_until (leb n left) (u n at') stop

  body_until : (at : ℕ) (h : Hidden) (n : ℕ → ℕ → Entry) {k k' : ℕ → ℕ → Layout Head} → Then₂ k k' → Until (body_at at h n k) (body_at at h n k')
  unfolding body_at
  body_until at h e u = compact_until at λ n at'. within_until at (at' + n) (note (skip (u n (at' + n))))

  value_until : (at : ℕ) (n a : ℕ → ℕ → Entry) {k k' : ℕ → ℕ → Layout Head} → Then₂ k k' → Until (value_at at n a k) (value_at at n a k')
  unfolding value_at
  value_until at n a u =
      further_until at at little 1 λ p at'.
      note (cond_until (eqb p 0) (u p at')
      (cond_until (eqb p 1) (further_until at' at' big 8 λ v at''. note (u p at''))
      (cond_until (eqb p 8 || eqb p 9) (opaque_until at' commitment_part 32 (u p)) stop)))

  token_until : (at : ℕ) (h : Hidden) (listed : ℕ → Bool) (n : ℕ → ℕ → Entry) {k k' : ℕ → Layout Head} → Then₁ k k' → Until (prefixed_at at h listed n k) (prefixed_at at h listed n k')
  unfolding prefixed_at
  token_until at h listed n u = further_until at at little 1 λ p at'. note (cond_until (eqb p 0) (u at') (cond_until (listed p) (opaque_until at' h 32 u) stop))

  issuance_until : (i at : ℕ) {k k' : ℕ → Layout Head} → Then₁ k k' → Until (issuance_at i at k) (issuance_at i at k')
  unfolding issuance_at
  issuance_until i at u =
      opaque_until at blinding_nonce 32 λ at₁. note (opaque_until at₁ entropy 32 λ at₂.
      value_until at₂ _ _ λ amount at₃. value_until at₃ _ _ λ keys at₄. cond_until (eqb amount 0 && eqb keys 0) stop (u at₄))

  input_until : (i at : ℕ) {k k' : ℕ → Layout Head} → Then₁ k k' → Until (input_at i at k) (input_at i at k')
  unfolding input_at
  input_until i at u =
      opaque_until at txid 32 λ at₁. note (further_until at₁ at₁ little 4 λ raw at₂. note (body_until at₂ script_body _ λ _ at₃.
      further_until at₃ at₃ little 4 λ s at₄. note (cond_until (eqb (flag_bit 31 raw) 1) (issuance_until i at₄ u) (u at₄))))

  output_until : (i at : ℕ) {k k' : ℕ → Layout Head} → Then₁ k k' → Until (output_at i at k) (output_at i at k')
  unfolding output_at
  output_until i at u = token_until at asset_part asset_prefix _ λ at₁. value_until at₁ _ _ λ _ at₂. token_until at₂ nonce_part nonce_prefix _ λ at₃. body_until at₃ script_body _ λ _. u

  each_until : (part : ℕ → ℕ → (ℕ → Layout Head) → Layout Head) → ((i at : ℕ) (k k' : ℕ → Layout Head) → Then₁ k k' → Until (part i at k) (part i at k')) → (n i at : ℕ) (k k' : Unit {0} → ℕ → Layout Head) → Then₁ (k tt) (k' tt) → Until (each (alone part) n i tt at k) (each (alone part) n i tt at k')
  unfolding each
  each_until part one zero i at k k' u = u at
  each_until part one (suc n) i at k k' u = one i at _ _ λ at'. each_until part one n (suc i) at' k k' u

-- what stands behind the flag byte, once it is known
abbrev pub behind_flag : Room → ℕ → ℕ → Layout Head
behind_flag room version flag =
    count_at 5 room.inputs λ ins at₃.
    each (alone input_at) ins 0 tt at₃ λ _ at₄.
    count_at at₄ room.outputs λ outs at₅.
    each (alone output_at) outs 0 tt at₅ λ _ at₆.
    number_at at₆ little 4 λ locktime at₇.
    let head : ℕ → ℕ → Head = λ n at. record { version = version; flag = flag; inputs = ins; outputs = outs; items = n; locktime = locktime; bytes = at } in
    cond (eqb flag 0) (accept (head 0 at₇))
    (cond (eqb flag 1)
    (each (input_witness_at room.items) ins 0 (seen 0 true) at₇ λ s₁ at₈.
    each output_witness_at outs 0 s₁ at₈ λ s₂ at₉.
    cond s₂.empty (refuse 8 4) (accept (head s₂.items at₉)))
    (refuse 7 4))

-- what follows the locktime, by the flag; the head numbers are those of a reading with flag 0
abbrev pub behind_locktime : Room → ℕ → Head → Layout Head
behind_locktime room flag h =
    let head : ℕ → ℕ → Head = λ n at. record { version = h.version; flag = flag; inputs = h.inputs; outputs = h.outputs; items = n; locktime = h.locktime; bytes = at } in
    cond (eqb flag 0) (accept (head 0 h.bytes))
    (cond (eqb flag 1)
    (each (input_witness_at room.items) h.inputs 0 (seen 0 true) h.bytes λ s₁ at₈.
    each output_witness_at h.outputs 0 s₁ at₈ λ s₂ at₉.
    cond s₂.empty (refuse 8 4) (accept (head s₂.items at₉)))
    (refuse 7 4))

flag_until : (room : Room) (version flag : ℕ) → Until (behind_locktime room flag) (behind_flag room version 0) (behind_flag room version flag)
flag_until room version flag =
    count_until (behind_locktime room flag) 5 room.inputs λ ins at₃.
    each_until (behind_locktime room flag) input_at (λ i at k k' u. input_until (behind_locktime room flag) i at u) ins 0 at₃ _ _ λ at₄.
    count_until (behind_locktime room flag) at₄ room.outputs λ outs at₅.
    each_until (behind_locktime room flag) output_at (λ i at k k' u. output_until (behind_locktime room flag) i at u) outs 0 at₅ _ _ λ at₆.
    further_until (behind_locktime room flag) at₆ at₆ little 4 λ locktime at₇. close

-- five bytes: the version and the flag
front : (room : Room) (a b c d flag : ℕ) (xs : List ℕ) → run (transaction room) (a ∷ b ∷ c ∷ d ∷ flag ∷ xs) ≡ behind 4 (behind 1 (run (behind_flag room (value little (a ∷ b ∷ c ∷ d ∷ [])) flag) xs))
unfolding transaction run further_at within
front room a b c d flag xs =
    field_run_lem 4 (λ bs. number little 1 λ f. behind_flag room (value little bs) f) (a ∷ b ∷ c ∷ d ∷ []) (flag ∷ xs) refl
    ∙ ap (behind 4) (field_run_lem 1 (λ bs. behind_flag room (value little (a ∷ b ∷ c ∷ d ∷ [])) (value little bs)) (flag ∷ []) xs refl)
    ∙ ap (λ (f : ℕ). behind 4 (behind 1 (run (behind_flag room (value little (a ∷ b ∷ c ∷ d ∷ [])) f) xs))) (value_one little flag)

-- With any flag, a reading is that with flag 0, and where that one finishes it goes on by the flag.
pub flag_judged_last : (z : Sizes) (a b c d flag : ℕ) (xs : List ℕ) → reading_of z (a ∷ b ∷ c ∷ d ∷ flag ∷ xs) ≡ further (behind_locktime (room_of z) flag) (reading_of z (a ∷ b ∷ c ∷ d ∷ 0 ∷ xs)) (a ∷ b ∷ c ∷ d ∷ flag ∷ xs)
flag_judged_last z a b c d flag xs =
    let room = room_of z in
    let on = behind_locktime room flag in
    let r = run (behind_flag room (value little (a ∷ b ∷ c ∷ d ∷ [])) 0) xs in
    front room a b c d flag xs
    ∙ ap (λ (r : Reading Head). behind 4 (behind 1 r)) (until_run on (flag_until room (value little (a ∷ b ∷ c ∷ d ∷ [])) flag) xs)
    ∙ ap (behind 4) (behind_further on 1 r.taken r.answer r.log (flag ∷ xs))
    ∙ behind_further on 4 (1 + r.taken) r.answer r.log (a ∷ b ∷ c ∷ d ∷ flag ∷ xs)
    ∙ ap (λ (q : Reading Head). further on q (a ∷ b ∷ c ∷ d ∷ flag ∷ xs)) (sym (front room a b c d 0 xs))

-- Which bytes are looked at, and what enters, with a flag above 1: as with flag 0, but for the flag byte itself.
front_trace : (room : Room) (a b c d flag : ℕ) (xs : List ℕ) → trace (transaction room) (a ∷ b ∷ c ∷ d ∷ flag ∷ xs) ≡ shown a ∷ shown b ∷ shown c ∷ shown d ∷ shown flag ∷ trace (behind_flag room (value little (a ∷ b ∷ c ∷ d ∷ [])) flag) xs
unfolding transaction trace further_at within
front_trace room a b c d flag xs =
    trace_there false 4 (a ∷ b ∷ c ∷ d ∷ flag ∷ xs) _ (omega arith)
    ∙ ap (λ (t : List Event). shown a ∷ shown b ∷ shown c ∷ shown d ∷ t) (trace_there false 1 (flag ∷ xs) _ (omega arith))
    ∙ ap (λ (f : ℕ). shown a ∷ shown b ∷ shown c ∷ shown d ∷ shown flag ∷ trace (behind_flag room (value little (a ∷ b ∷ c ∷ d ∷ [])) f) xs) (value_one little flag)

nothing_on : (room : Room) (flag : ℕ) → 1 < flag → (a : Answer Head) (n : ℕ) (t : List Event) (xs : List ℕ) → traces_on (behind_locktime room flag) a n t xs ≡ t
unfolding trace
nothing_on room flag above (finished h) n t xs = rw (ne_eqb flag 0 (λ e. omega arith), ne_eqb flag 1 (λ e. omega arith)) (append-nil t)
nothing_on room flag above more n t xs = refl
nothing_on room flag above (refused m p) n t xs = refl

-- so two inputs with one flag above 1 agree at the bearing bytes exactly where the same two with flag 0 are met alike
pub flag_trace : (room : Room) (a b c d flag : ℕ) (xs : List ℕ) → 1 < flag → trace (transaction room) (a ∷ b ∷ c ∷ d ∷ flag ∷ xs) ≡ shown a ∷ shown b ∷ shown c ∷ shown d ∷ shown flag ∷ trace (behind_flag room (value little (a ∷ b ∷ c ∷ d ∷ [])) 0) xs
flag_trace room a b c d flag xs above =
    let l = behind_flag room (value little (a ∷ b ∷ c ∷ d ∷ [])) 0 in
    front_trace room a b c d flag xs
    ∙ ap (λ (t : List Event). shown a ∷ shown b ∷ shown c ∷ shown d ∷ shown flag ∷ t) (until_trace (behind_locktime room flag) (flag_until room (value little (a ∷ b ∷ c ∷ d ∷ [])) flag) xs ∙ nothing_on room flag above (run l xs).answer (run l xs).taken (trace l xs) xs)

-- and a caller sees what it sees with flag 0, and 7 where that is finished
seven_on : (z : Sizes) (flag : ℕ) → 1 < flag → (t : Answer Head) (n : ℕ) (es : List Entry) (xs : List ℕ) → outcome z (goes_on (behind_locktime (room_of z) flag) t n es xs) ≡ seven_of z (outcome z (reading t n es))
unfolding run
seven_on z flag above (finished h) n es xs = rw (ne_eqb flag 0 (λ e. omega arith), ne_eqb flag 1 (λ e. omega arith)) (λ j. record { answer = refused 7 4; taken = add-zero n j; tables = zeros z })
seven_on z flag above more n es xs = refl
seven_on z flag above (refused m p) n es xs = refl

pub flag_seven : (z : Sizes) (a b c d flag : ℕ) (xs : List ℕ) → 1 < flag → partial z (a ∷ b ∷ c ∷ d ∷ flag ∷ xs) ≡ seven_of z (partial z (a ∷ b ∷ c ∷ d ∷ 0 ∷ xs))
flag_seven z a b c d flag xs above =
    let r = reading_of z (a ∷ b ∷ c ∷ d ∷ 0 ∷ xs) in
    ap (outcome z) (flag_judged_last z a b c d flag xs) ∙ seven_on z flag above r.answer r.taken r.log (a ∷ b ∷ c ∷ d ∷ flag ∷ xs)

-- ---- 7 and 8, exactly when

pub unflagged : (a b c d flag : ℕ) (xs : List ℕ) → Bytes (a ∷ b ∷ c ∷ d ∷ flag ∷ xs) → Bytes (a ∷ b ∷ c ∷ d ∷ 0 ∷ xs)
unflagged a b c d flag xs q zero = q zero
unflagged a b c d flag xs q (suc zero) = q 1
unflagged a b c d flag xs q (suc (suc zero)) = q 2
unflagged a b c d flag xs q (suc (suc (suc zero))) = q 3
unflagged a b c d flag xs q (suc (suc (suc (suc zero)))) = omega arith
unflagged a b c d flag xs q (suc (suc (suc (suc (suc i))))) = q (suc (suc (suc (suc (suc i)))))

-- the fifth byte of what was taken is the flag, or nothing is there
fifth : (n a b c d flag : ℕ) (xs : List ℕ) → 5 ≤ length (take n (a ∷ b ∷ c ∷ d ∷ flag ∷ xs)) → get_or (take n (a ∷ b ∷ c ∷ d ∷ flag ∷ xs)) 4 0 ≡ flag
fifth n a b c d flag xs h = get_or-take n (a ∷ b ∷ c ∷ d ∷ flag ∷ xs) 4 0 (omega (arith, length-take n (a ∷ b ∷ c ∷ d ∷ flag ∷ xs)))

-- with flag 0 neither is given
no_flag : (room : Room) (m p n a b c d : ℕ) (xs : List ℕ) → Refusal room m p (take n (a ∷ b ∷ c ∷ d ∷ 0 ∷ xs)) → m ≤ 6
no_flag room m p n a b c d xs (fixed_past w e _ _ _) = omega arith
no_flag room m p n a b c d xs (further_past first e _ _ _) = omega arith
no_flag room m p n a b c d xs (body_past k e _ _) = omega arith
no_flag room m p n a b c d xs (not_shortest first ds e _ _ _ _) = omega arith
no_flag room m p n a b c d xs (too_many k left e _ _ _) = omega arith
no_flag room m p n a b c d xs (not_listed k e _ _) = omega arith
no_flag room m p n a b c d xs (null_issuance hid e _ _) = omega arith
no_flag room m p n a b c d xs (flag_above _ _ above long) = absurd (omega (arith, fifth n a b c d 0 xs (omega arith)))
no_flag room m p n a b c d xs (all_empty _ _ one long) = absurd (omega (arith, fifth n a b c d 0 xs (omega arith)))

module _ (z : Sizes) (a b c d flag : ℕ) (xs : List ℕ) (q : Bytes (a ∷ b ∷ c ∷ d ∷ flag ∷ xs)) where
  abbrev plain : Reading Head
  plain = reading_of z (a ∷ b ∷ c ∷ d ∷ 0 ∷ xs)

  -- where 7 or 8 is given, the reading with flag 0 has finished
  front_whole : (m : ℕ) → 7 ≤ m → (reading_of z (a ∷ b ∷ c ∷ d ∷ flag ∷ xs)).answer ≡ refused m 4 → (h : Head) × (plain.answer ≡ finished h)
  front_whole m late e = by_answer plain.answer refl (sym (ap (λ (r : Reading Head). r.answer) (flag_judged_last z a b c d flag xs)) ∙ e)
    where
      by_answer : (t : Answer Head) → plain.answer ≡ t → (goes_on (behind_locktime (room_of z) flag) t plain.taken plain.log (a ∷ b ∷ c ∷ d ∷ flag ∷ xs)).answer ≡ refused m 4 → (h : Head) × (plain.answer ≡ finished h)
      by_answer (finished h) s r = (h, s)
      by_answer more s r = absurd (refused_not_more (sym r))
      by_answer (refused k p) s r =
          let same : k ≡ m = cc in
          absurd (omega (arith, no_flag (room_of z) k p plain.taken a b c d xs (refusal_shown z (a ∷ b ∷ c ∷ d ∷ 0 ∷ xs) (unflagged a b c d flag xs q) k p s)))

  -- 7: witness flag above 1, of bytes that with flag 0 would be a whole transaction.
  pub seven_when : 1 < flag → ((reading_of z (a ∷ b ∷ c ∷ d ∷ flag ∷ xs)).answer ≡ refused 7 4) ↔ ((h : Head) × (plain.answer ≡ finished h))
  unfolding run
  seven_when above = (
    front_whole 7 (omega arith),
    λ u.
        ap (λ (r : Reading Head). r.answer) (flag_judged_last z a b c d flag xs)
        ∙ ap (λ (t : Answer Head). (goes_on (behind_locktime (room_of z) flag) t plain.taken plain.log (a ∷ b ∷ c ∷ d ∷ flag ∷ xs)).answer) u.1
        ∙ rw (ne_eqb flag 0 (λ e. omega arith), ne_eqb flag 1 (λ e. omega arith)),
  )

  -- 8 is given behind a locktime too: with flag 0 the bytes up to there would be a whole transaction. (That it is given: Moments, read_exactly.)
  pub eight_when : (reading_of z (a ∷ b ∷ c ∷ d ∷ flag ∷ xs)).answer ≡ refused 8 4 → (h : Head) × (plain.answer ≡ finished h)
  eight_when = front_whole 8 (omega arith)
