-- The laws of names that are put together, by their sizes.
use mathlib.Core.Path.{◌≡◌, refl, ap, ◌∙◌, sym}
use mathlib.Core.Bool.{Bool, true, false, ◌&&◌}
use mathlib.Core.List.{List, [], ◌∷◌, ◌++◌}
use Prim.Native.Nat.{ℕ, ◌+◌, ◌<◌, ◌≤◌}
use native.Mathlib.Omega.{arith}
use borrow.Author.Rules.{rules}
use borrow.Author.Tests.{le-leb, lt-leb}
use lib.Dec.{leb}
use Rattle.std.specs.Prelude.{Result}
use Rattle.std.specs.Result.{result_unwrap_or}
use lib.ListN.{length, length-append}
use Rattle.rules.specs.Lists.{pick, all, has}
use Rattle.rules.specs.Kinds.{field_at}
use Rattle.rules.specs.Names.{NameRead, named, misnamed, label, longest_name, name_of, wire_in, wire_of}
use Rattle.rules.specs.Records.{ns, mx, srv, hostmaster, host_name, contact_of, joined_names}
use Rattle.rules.specs.Answers.{no_fault, joined_fault}
use Rattle.rules.specs.declared.faults.Fault.{Fault}
use Rattle.rules.specs.declared.faults.FieldKind.{FieldKind}
use Rattle.rules.specs.declared.faults.LineFault.{LineFault}
use Rattle.rules.specs.declared.kinds.Kind.{Kind}
use Rattle.rules.proofs.Names.{Wire, OnName, name_ok, short_of}
use Rattle.judged_names.specs.Views.{judged_of}
use Rattle.judged_names.specs.declared.judged.Misnamed.{Misnamed}
use Rattle.joined.specs.Joined.{middle_size, contact_size, host_size, if_short}

-- ---- the size of a name

judged_wire : (m : NameRead) → OnName Wire m → (result_unwrap_or (judged_of m) 0 ≡ length (wire_in m)) × (length (wire_in m) ≤ 255)
unfolding wire_in
judged_wire (named w) h = (refl, short_of w h)
judged_wire (misnamed f p) h = (refl, omega arith)

pub judged_size : (t : List ℕ) (j : Result ℕ Misnamed) (n : ℕ) → j ≡ judged_of (name_of t) → n ≡ result_unwrap_or j 0 → (n ≡ length (wire_of t)) × (n ≤ 255)
unfolding wire_of
judged_size t j n e q =
    let w = judged_wire (name_of t) (name_ok t) in
    let u : n ≡ length (wire_in (name_of t)) = q ∙ rw e w.0 in
    (u, rw u w.1)

-- ---- the size of the name that x gives

label_size : (x : List ℕ) → (length x ≡ 0 → ⊥) → length (label x) ≡ length x + 1
unfolding label
label_size [] h = absurd (h refl)
label_size (b ∷ x) h = omega arith

label_none : (x : List ℕ) → length x ≡ 0 → length (label x) ≡ 0
unfolding label
label_none [] h = refl
label_none (b ∷ x) h = absurd (omega arith)

module _ (x : List ℕ) (middle owner : ℕ) (dot : Bool) (e : dot ≡ has 46 x) where
  pub dotted : (n : ℕ) → dot ≡ true → (n ≡ length (wire_of x)) × (n ≤ 255) → n ≡ host_size middle owner x
  unfolding host_size pick
  dotted n t s = rw (← e, t) s.0

  pub no_label : dot ≡ false → length x ≡ 0 → middle + owner ≡ host_size middle owner x
  unfolding host_size pick
  no_label t h = rw (← e, t, label_none x h) (omega arith)

  pub one_label : dot ≡ false → (length x ≡ 0 → ⊥) → length x + 1 + middle + owner ≡ host_size middle owner x
  unfolding host_size pick
  one_label t h = rw (← e, t, label_size x h)

pub ruleset host_laws = (rules, dotted, no_label, one_label)

-- ---- one or two names

pub short : (n : ℕ) → n ≤ 255 → record { fault = Fault.Done; field = 0 } ≡ if_short n
unfolding if_short pick no_fault
short n h = rw (le-leb n 255 h)

pub long : (n : ℕ) → 255 < n → record { fault = Fault.Malformed FieldKind.Name; field = 0 } ≡ if_short n
unfolding if_short pick
long n h = rw (lt-leb n 255 h)

one_name : (n : List ℕ) → joined_fault (n ∷ []) ≡ if_short (length n)
unfolding joined_fault if_short all longest_name
one_name n = by (leb (length n) 255)
  where
    by : (t : Bool) → pick (t && true) no_fault (record { fault = Fault.Malformed FieldKind.Name; field = 0 }) ≡ pick t no_fault (record { fault = Fault.Malformed FieldKind.Name; field = 0 })
    by true = refl
    by false = refl

two_names : (n m : List ℕ) → joined_fault (n ∷ m ∷ []) ≡ pick (leb (length n) 255) (if_short (length m)) (if_short (length n))
unfolding joined_fault if_short all longest_name pick
two_names n m = by (leb (length n) 255) (leb (length m) 255)
  where
    bad : LineFault
    bad = record { fault = Fault.Malformed FieldKind.Name; field = 0 }

    by : (t u : Bool) → pick (t && (u && true)) no_fault bad ≡ pick t (pick u no_fault bad) (pick t no_fault bad)
    by true true = refl
    by true false = refl
    by false u = refl

length_host : (middle owner x : List ℕ) → length (host_name middle owner x) ≡ host_size (length (label middle)) (length owner) x
unfolding host_name host_size
length_host middle owner x = by (has 46 x)
  where
    by : (t : Bool) → length (pick t (wire_of x) (label x ++ label middle ++ owner)) ≡ pick t (length (wire_of x)) (length (label x) + length (label middle) + length owner)
    by true = unfold pick in refl
    by false = unfold pick in simp length-append

-- what a kind's names come to: the host's, and the contact's behind it
abbrev Joined : Kind → ℕ → List ℕ → LineFault
Joined kind owner x = pick (leb (host_size (middle_size kind) owner x) 255) (if_short (contact_size kind + owner)) (if_short (host_size (middle_size kind) owner x))

none_joined : (kind : Kind) (fields : List (List ℕ)) → middle_size kind ≡ 0 → joined_fault (joined_names kind fields) ≡ no_fault
unfolding joined_names joined_fault all pick
none_joined Kind.Location fields h = refl
none_joined Kind.Zone fields h = absurd (omega arith)
none_joined Kind.Delegation fields h = absurd (omega arith)
none_joined Kind.Host fields h = refl
none_joined Kind.Alias fields h = refl
none_joined Kind.Mail fields h = absurd (omega arith)
none_joined Kind.Service fields h = absurd (omega arith)
none_joined Kind.Text fields h = refl
none_joined Kind.Pointer fields h = refl
none_joined Kind.Canonical fields h = refl
none_joined Kind.Authority fields h = refl
none_joined Kind.Generic fields h = refl
none_joined Kind.Unknown fields h = refl

-- an owner is no longer than 255 bytes, so that alone it is short
host_alone : (n owner : ℕ) → owner ≤ 255 → if_short n ≡ pick (leb n 255) (if_short (0 + owner)) (if_short n)
unfolding if_short pick
host_alone n owner h = rw (← (short (0 + owner) (omega arith))) (by (leb n 255))
  where
    by : (t : Bool) → pick t no_fault (record { fault = Fault.Malformed FieldKind.Name; field = 0 }) ≡ pick t (record { fault = Fault.Done; field = 0 }) (pick t no_fault (record { fault = Fault.Malformed FieldKind.Name; field = 0 }))
    by true = unfold pick no_fault in refl
    by false = unfold pick in refl

alone : (middle owner x : List ℕ) → length owner ≤ 255
    → joined_fault (host_name middle owner x ∷ []) ≡ pick (leb (host_size (length (label middle)) (length owner) x) 255) (if_short (0 + length owner)) (if_short (host_size (length (label middle)) (length owner) x))
alone middle owner x h = one_name (host_name middle owner x) ∙ rw (length_host middle owner x) (host_alone _ (length owner) h)

some_joined : (kind : Kind) (fields : List (List ℕ)) → (middle_size kind ≡ 0 → ⊥) → length (wire_of (field_at fields 0)) ≤ 255
    → joined_fault (joined_names kind fields) ≡ Joined kind (length (wire_of (field_at fields 0))) (field_at fields 2)
unfolding joined_names ns mx srv label contact_of hostmaster
some_joined Kind.Location fields h k = absurd (h refl)
some_joined Kind.Zone fields h k =
    two_names (host_name ns (wire_of (field_at fields 0)) (field_at fields 2)) (contact_of (wire_of (field_at fields 0)))
    ∙ rw (length_host ns (wire_of (field_at fields 0)) (field_at fields 2), length-append hostmaster (wire_of (field_at fields 0)))
some_joined Kind.Delegation fields h k = alone ns (wire_of (field_at fields 0)) (field_at fields 2) k
some_joined Kind.Host fields h k = absurd (h refl)
some_joined Kind.Alias fields h k = absurd (h refl)
some_joined Kind.Mail fields h k = alone mx (wire_of (field_at fields 0)) (field_at fields 2) k
some_joined Kind.Service fields h k = alone srv (wire_of (field_at fields 0)) (field_at fields 2) k
some_joined Kind.Text fields h k = absurd (h refl)
some_joined Kind.Pointer fields h k = absurd (h refl)
some_joined Kind.Canonical fields h k = absurd (h refl)
some_joined Kind.Authority fields h k = absurd (h refl)
some_joined Kind.Generic fields h k = absurd (h refl)
some_joined Kind.Unknown fields h k = absurd (h refl)

module _ (fields : List (List ℕ)) (kind : Kind) (middle : ℕ) (e : (middle ≡ middle_size kind) × (middle ≤ 4)) where
  pub nothing_joined : middle ≡ 0 → record { fault = Fault.Done; field = 0 } ≡ joined_fault (joined_names kind fields)
  unfolding no_fault
  nothing_joined z = sym (none_joined kind fields (omega (arith, e)))

  module _ (t x : List ℕ) (owner host : ℕ) (some : middle ≡ 0 → ⊥) (p : t ≡ field_at fields 0) (q : x ≡ field_at fields 2) (o : (owner ≡ length (wire_of t)) × (owner ≤ 255)) (h : host ≡ host_size middle owner x) where
    joined_is : joined_fault (joined_names kind fields) ≡ pick (leb host 255) (if_short (contact_size kind + owner)) (if_short host)
    joined_is =
        let w : owner ≡ length (wire_of (field_at fields 0)) = o.0 ∙ ap (λ (l : List ℕ). length (wire_of l)) p in
        some_joined kind fields (λ z. some (e.0 ∙ z)) (omega (arith, o))
        ∙ rw (← w, ← q, ← e.0, ← h)

    pub long_host : (r : LineFault) → 255 < host → r ≡ if_short host → r ≡ joined_fault (joined_names kind fields)
    unfolding pick
    long_host r l f = f ∙ sym (joined_is ∙ rw (lt-leb host 255 l))

    pub short_host : (r : LineFault) (contact : ℕ) → host ≤ 255 → (contact ≡ contact_size kind) × (contact ≤ 11) → r ≡ if_short (contact + owner) → r ≡ joined_fault (joined_names kind fields)
    unfolding pick
    short_host r contact l c f = f ∙ sym (joined_is ∙ rw (le-leb host 255 l, ← c.0))

pub ruleset joined_laws = (rules, nothing_joined, long_host, short_host)
