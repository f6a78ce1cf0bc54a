-- Any two outcomes that a promise allows are equal: the result, and every lent table at exit. `Post` is the promise itself, as the
-- check reads it off the function's clauses; it speaks of the lifetimes, the arguments, the result, and the arguments at exit. Each
-- answer of document 01 is that of one case at most (`same_told`), so equal promises make equal results.
use mathlib.Core.Path.{◌≡◌, refl, sym, ◌∙◌, ap}
use Rattle.layout.specs.Layout as layout
use Rattle.layout.specs.Transaction as transaction
use Rattle.layout.specs.Outcome.{Tables, Outcome}
use Rattle.encode.proofs.Refusals.{kind_of, kind_of_number}
use Rattle.decoders.specs.declared.Answer.{Answer}
use Rattle.decoders.specs.declared.Answer.TheVariants.{Finished, More, Refused}
use Rattle.decoders.specs.declared.Fed.{Fed}
use Rattle.decoders.specs.declared.Read.{Read}
use Rattle.decoders.specs.Machine.{State, Machine}
use Rattle.decoders.specs.Feeding.{told, Out, out_of, whole_of}
use Rattle.decoders.proofs.TransactionDecoder.new.Reads as new
use Rattle.decoders.proofs.TransactionDecoder.push_bytes.Reads as push
use Rattle.decoders.proofs.TransactionDecoder.end.Reads as end
use Rattle.decoders.proofs.TransactionDecoder.read.Reads as read
use Rattle.decoders.proofs.TransactionDecoder.read_strict.Reads as strict

-- the enum's case from 01's answer
abbrev retold : layout.Answer transaction.Head → Answer
retold (layout.finished h) =
    Finished (record { version = h.version; flag = h.flag; inputs = h.inputs; outputs = h.outputs; items = h.items; locktime = h.locktime; bytes = h.bytes })
retold layout.more = More
retold (layout.refused n p) = Refused (record { kind = kind_of n; place = p })

retold_told : (a : Answer) → retold (told a) ≡ a
retold_told (Finished h) = refl
retold_told More = refl
retold_told (Refused r) = λ i. Refused (record { kind = kind_of_number r.kind i; place = r.place })

pub same_told : (a b : Answer) → told a ≡ told b → a ≡ b
same_told a b e = sym (retold_told a) ∙ ap retold e ∙ retold_told b

same_fed : (r r' : Fed) (t t' : Tables) → out_of r t ≡ out_of r' t' → r ≡ r'
same_fed r r' t t' e =
    let a = same_told r.answer r'.answer (ap (λ (x : Out). x.answer) e) in
    λ i. record { decoder = (e i).state; taken = (e i).taken; answer = a i }

same_read : (r r' : Read) (t t' : Tables) → whole_of r t ≡ whole_of r' t' → r ≡ r'
same_read r r' t t' e =
    let a = same_told r.answer r'.answer (ap (λ (x : Outcome). x.answer) e) in
    λ i. record { taken = (e i).taken; answer = a i }

pub one_outcome_push : (κ : _) (args : _) (r r' : Fed) (exit exit' : _) → push.Post κ args r exit → push.Post κ args r' exit' → (r ≡ r') × (exit.1.1.0.now ≡ exit'.1.1.0.now) × (exit.1.1.1.0.now ≡ exit'.1.1.1.0.now) × (exit.1.1.1.1.0.now ≡ exit'.1.1.1.1.0.now)
one_outcome_push κ args r r' exit exit' p q =
    let e = p ∙ sym q in
    (same_fed r r' _ _ e, ap (λ (x : Out). x.tables.inputs) e, ap (λ (x : Out). x.tables.outputs) e, ap (λ (x : Out). x.tables.items) e)

pub one_outcome_end : (κ : _) (args : _) (r r' : Fed) (exit exit' : _) → end.Post κ args r exit → end.Post κ args r' exit' → (r ≡ r') × (exit.1.0.now ≡ exit'.1.0.now) × (exit.1.1.0.now ≡ exit'.1.1.0.now) × (exit.1.1.1.0.now ≡ exit'.1.1.1.0.now)
one_outcome_end κ args r r' exit exit' p q =
    let e = p ∙ sym q in
    (same_fed r r' _ _ e, ap (λ (x : Out). x.tables.inputs) e, ap (λ (x : Out). x.tables.outputs) e, ap (λ (x : Out). x.tables.items) e)

pub one_outcome_read : (κ : _) (args : _) (r r' : Read) (exit exit' : _) → read.Post κ args r exit → read.Post κ args r' exit' → (r ≡ r') × (exit.1.0.now ≡ exit'.1.0.now) × (exit.1.1.0.now ≡ exit'.1.1.0.now) × (exit.1.1.1.0.now ≡ exit'.1.1.1.0.now)
one_outcome_read κ args r r' exit exit' p q =
    let e = p ∙ sym q in
    (same_read r r' _ _ e, ap (λ (x : Outcome). x.tables.inputs) e, ap (λ (x : Outcome). x.tables.outputs) e, ap (λ (x : Outcome). x.tables.items) e)

pub one_outcome_strict : (κ : _) (args : _) (r r' : Read) (exit exit' : _) → strict.Post κ args r exit → strict.Post κ args r' exit' → (r ≡ r') × (exit.1.0.now ≡ exit'.1.0.now) × (exit.1.1.0.now ≡ exit'.1.1.0.now) × (exit.1.1.1.0.now ≡ exit'.1.1.1.0.now)
one_outcome_strict κ args r r' exit exit' p q =
    let e = p ∙ sym q in
    (same_read r r' _ _ e, ap (λ (x : Outcome). x.tables.inputs) e, ap (λ (x : Outcome). x.tables.outputs) e, ap (λ (x : Outcome). x.tables.items) e)

pub one_outcome_new : (κ : _) (args : _) (r r' : State) (exit exit' : _) → new.Post κ args r exit → new.Post κ args r' exit' → (r ≡ r') × (exit.0.now ≡ exit'.0.now) × (exit.1.0.now ≡ exit'.1.0.now) × (exit.1.1.0.now ≡ exit'.1.1.0.now)
one_outcome_new κ args r r' exit exit' p q =
    let e = p ∙ sym q in
    (ap (λ (x : Machine). x.state) e, ap (λ (x : Machine). x.tables.inputs) e, ap (λ (x : Machine). x.tables.outputs) e, ap (λ (x : Machine). x.tables.items) e)
