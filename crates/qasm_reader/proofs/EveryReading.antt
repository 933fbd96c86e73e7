-- Each text reads: as a circuit, or by a refusal.
use Rattle.std.proofs.Common.{◌≡◌, ◌∙◌, sym, ap, refl, subst, ◌⊎◌, inl, inr, ℕ, ◌+◌, Bool, true, false, ◌||◌, not, List, [], ◌∷◌, ◌++◌, length, append_assoc, append-nil, Option, Some, None, is_some, Ok, Err}
use Rattle.std.specs.List.{list_any}
use Rattle.std.proofs.lemmas.Bool.{false_from_ne_true}
use Rattle.std.proofs.lemmas.Option.{none-some}
use Rattle.qasm_lex.specs.Lexemes.{Lexeme, word, mark, lexemes_of}
use Rattle.qasm_lex.specs.Symbols.{decimal}
use Rattle.qasm_lex.proofs.Cuts.{tokens_exist}
use Rattle.qasm_lex.proofs.LexemeCuts.{are_lexemes}
use Rattle.qasm_forms.specs.Statements.{Statement, version, qubits, bits, measure, call, definition, Argument, End, semicolon, brace, IsStatement, is_mark, first_word, written_rest, end_of, ended, written}
use Rattle.qasm_forms.specs.Cutting.{begins_left}
use Rattle.qasm_forms.specs.Private.Parsing.{statement_at}
use Rattle.qasm_forms.proofs.Forms.{statement_found}
use Rattle.qasm_forms.proofs.Exact.{read_as, statements_same}
use Rattle.qasm_reader.specs.declared.reason.Why.{Why}
use Rattle.qasm_reader.specs.declared.reason.Why.TheVariants.{BadByte, NoVersion, NotAStatement, OutOfProfile, UnknownName, UnknownRegister, AngleRefused, OffGrid}
use Rattle.qasm_reader.specs.Acts.{Act, nothing, declares, measures, applies, registers, definitions, circuit_of}
use Rattle.qasm_reader.specs.Profile.{leaves}
use Rattle.qasm_gates.specs.Gates.{Basic, Meaning, Named}
use Rattle.qasm_gates.specs.Private.Counts.{count_of, items_done}
use Rattle.qasm_gates.proofs.Done.{counted_does, uncounted_does_nothing}
use Rattle.qasm_gates.proofs.Sound.{found_sound}
use Rattle.qasm_reader.specs.Calls.{gate_named, listed, Does}
use Rattle.qasm_reader.specs.Parts.{Part, parts_of, Has}
use Rattle.qasm_reader.specs.Reasons.{Refuses, IsFree, is_unknown}
use Rattle.qasm_reader.specs.Reading.{Accepts, AllAccepted, Reading, circuit, refusal, IsRefused, Reads, ReadsAs}
use Rattle.qasm_reader.specs.Private.Meanings.{meaning_of}
use Rattle.qasm_reader.specs.Private.Drafts.{AreSound}
use Rattle.qasm_reader.proofs.Deciding.{tests, first_of, IsGood, refuses, free}
use Rattle.qasm_reader.proofs.Good.{some_more, bad_refuses, version_refuses, form_refuses}
use Rattle.qasm_reader.proofs.Looking.{target_known, targets_known}
use Rattle.qasm_forms.proofs.Nesting.{mark_is}
use Rattle.qasm_reader.proofs.Meanings.{means_is, meant_positive}
use Rattle.qasm_reader.proofs.Sounding.{accepted_sound}

module _ (limit : ℕ) (before : List Act) (sound : AreSound (definitions before)) (part : Part) where
  module _ (free : IsFree limit before part) where
    call_counted : (name : List ℕ) (angles : Option (List (List Lexeme))) (all : List Argument) → Has before part (call name angles all) → (called : Named) → gate_named before name ≡ Some called
        → (basics : List Basic) → meaning_of called (listed angles) ≡ Ok basics → (x : Option ℕ) → count_of basics ≡ x → (act : Act) × Does before (call name angles all) act
    call_counted name angles all h called b basics m None c =
        absurd (free OffGrid (
          call name angles all,
          h,
          (
            called,
            basics,
            b,
            means_is called (listed angles) (Ok basics) m,
            λ items d. uncounted_does_nothing basics items (meant_positive called (listed angles) basics (found_sound (definitions before) name called sound b) m) c d,
          ),
        ))
    call_counted name angles all h called b basics m (Some n) c =
        let u : list_any (is_unknown (registers before) true) all ≡ false = false_from_ne_true _ (λ e. free UnknownRegister (call name angles all, h, ap (λ x. x || false) e)) in
        let ts = targets_known (registers before) all u in (
          applies called.items (items_done basics) ts.0,
          record {
            called = called;
            basics = basics;
            items = items_done basics;
            on = ts.0;
            named = b;
            meant = means_is called (listed angles) (Ok basics) m;
            done = (counted_does basics n c).0;
            means = ts.1;
            does = refl;
          },
        )

    call_meant : (name : List ℕ) (angles : Option (List (List Lexeme))) (all : List Argument) → Has before part (call name angles all) → (called : Named) → gate_named before name ≡ Some called
        → (m : Meaning) → meaning_of called (listed angles) ≡ m → (act : Act) × Does before (call name angles all) act
    call_meant name angles all h called b (Err e) m = absurd (free (AngleRefused e) (call name angles all, h, (called, b, means_is called (listed angles) (Err e) m)))
    call_meant name angles all h called b (Ok basics) m = call_counted name angles all h called b basics m (count_of basics) refl

    call_does : (name : List ℕ) (angles : Option (List (List Lexeme))) (all : List Argument) → Has before part (call name angles all) → (named : Option Named) → gate_named before name ≡ named
        → (act : Act) × Does before (call name angles all) act
    call_does name angles all h None b = absurd (free UnknownName (call name angles all, h, ap (λ g. not (is_some g) || false) b))
    call_does name angles all h (Some called) b = call_meant name angles all h called b (meaning_of called (listed angles)) refl

    measure_does : (from to : Argument) → Has before part (measure from to) → (act : Act) × Does before (measure from to) act
    measure_does from to h =
        let u : is_unknown (registers before) true from ≡ false = false_from_ne_true _ (λ e. free UnknownRegister (measure from to, h, ap (λ x. (x || false) || (is_unknown (registers before) false to || false)) e)) in
        let t = target_known (registers before) true from u in
        (measures t.0, (t.0, t.1, refl))

    -- a statement that nothing refuses does something
    does : (s : Statement) → Has before part s → (act : Act) × Does before s act
    does (qubits name size) h = (declares true name (decimal size), refl)
    does (bits name size) h = (declares false name (decimal size), refl)
    does (measure from to) h = measure_does from to h
    does (call name angles all) h = call_does name angles all h (gate_named before name) refl
    does (definition name params formals lines) h = absurd (free OutOfProfile (definition name params formals lines, h, refl))
    does _ h = (nothing, refl)

  -- accepted, or refused
  abbrev pub Decided : Type 0
  Decided = ((act : Act) × Accepts limit before part act) ⊎ ((why : Why) × Refuses limit before part why)

  -- a statement in its place
  good_decided : (s : Statement) → IsGood before part s → Decided
  good_decided s g = by (first_of (tests limit before s)) refl
    where
      by : (o : Option Why) → first_of (tests limit before s) ≡ o → Decided
      by (Some why) e = inr (why, refuses limit before sound part s g why e)
      by None e =
          let f = free limit before sound part s g e in
          let d = does f s g.has in
          inl (d.0, record { free = f; statement = s; has = g.has; does = d.1 })

-- a statement is the version or isn't
pub version_or_not : (s : Statement) → (s ≡ version) ⊎ (s ≡ version → ⊥)
version_or_not version = inl refl
version_or_not _ = inr (λ e. cc)

-- lexemes end a statement or don't
ended_or_not : (ls : List Lexeme) → ((front : List Lexeme) × (end : End) × (ls ≡ ended front end)) ⊎ ((front : List Lexeme) (end : End) → ls ≡ ended front end → ⊥)
ended_or_not [] = inr none
  where
    none : (front : List Lexeme) (end : End) → [] ≡ ended front end → ⊥
    none [] end e = cc
    none (l ∷ front) end e = cc
ended_or_not (l ∷ []) = by (is_mark 59 l) refl (is_mark 125 l) refl
  where
    none : is_mark 59 l ≡ false → is_mark 125 l ≡ false → (front : List Lexeme) (end : End) → l ∷ [] ≡ ended front end → ⊥
    none f g [] semicolon e = let q : l ≡ mark 59 = cc in let r : false ≡ true = sym f ∙ ap (is_mark 59) q in cc
    none f g [] brace e = let q : l ≡ mark 125 = cc in let r : false ≡ true = sym g ∙ ap (is_mark 125) q in cc
    none f g (m ∷ []) end e = cc
    none f g (m ∷ n ∷ front) end e = cc

    by : (b : Bool) → is_mark 59 l ≡ b → (c : Bool) → is_mark 125 l ≡ c → ((front : List Lexeme) × (end : End) × (l ∷ [] ≡ ended front end)) ⊎ ((front : List Lexeme) (end : End) → l ∷ [] ≡ ended front end → ⊥)
    by true e c f = inl ([], semicolon, ap (λ x. x ∷ []) (mark_is 59 l e))
    by false e true f = inl ([], brace, ap (λ x. x ∷ []) (mark_is 125 l f))
    by false e false f = inr (none e f)
ended_or_not (l ∷ m ∷ ls) = elim (ended_or_not (m ∷ ls)) [
  | inl f ↦ inl (l ∷ f.0, f.1, ap (λ r. l ∷ r) f.2)
  | inr n ↦ inr (none n)
]
  where
    none : ((front : List Lexeme) (end : End) → m ∷ ls ≡ ended front end → ⊥) → (front : List Lexeme) (end : End) → l ∷ m ∷ ls ≡ ended front end → ⊥
    none n [] end e = cc
    none n (x ∷ front) end e = n front end cc

module _ (limit : ℕ) where
  -- what is no statement is refused
  none_decided : (before : List Act) (sound : AreSound (definitions before)) (part : Part) → part.bad ≡ None → ((s : Statement) → Has before part s → ⊥) → Decided limit before sound part
  none_decided [] sound part e n = inr (NoVersion, version_refuses limit [] part e refl (n version))
  none_decided (a ∷ before) sound part e n = inr (NotAStatement, form_refuses limit (a ∷ before) part e (some_more a before) n)

  -- a statement is in its place, or is refused
  placed_decided : (before : List Act) (sound : AreSound (definitions before)) (part : Part) (s : Statement) → (s ≡ version) ⊎ (s ≡ version → ⊥) → part.bad ≡ None → part.closed ≡ true → part.lexemes ≡ written s → IsStatement (leaves before) s → Decided limit before sound part
  placed_decided [] sound part s (inl v) e c w f =
      let h : Has [] part s = record { closed = c; spelled = w; statement = f; first = λ p. refl } in
      good_decided limit [] sound part s (record { has = h; no_bad = e; first = λ p. v })
  placed_decided [] sound part s (inr n) e c w f =
      inr (NoVersion, version_refuses limit [] part e refl (λ g. n (statements_same (leaves []) s version f g.statement (sym w ∙ g.spelled))))
  placed_decided (a ∷ before) sound part s (inl v) e c w f =
      inr (
        NotAStatement,
        form_refuses limit (a ∷ before) part e (some_more a before)
            (λ o g. some_more a before (g.first (statements_same (leaves (a ∷ before)) o s g.statement f (sym g.spelled ∙ w) ∙ v))),
      )
  placed_decided (a ∷ before) sound part s (inr n) e c w f =
      let h : Has (a ∷ before) part s = record { closed = c; spelled = w; statement = f; first = λ p. absurd (n p) } in
      good_decided limit (a ∷ before) sound part s (record { has = h; no_bad = e; first = λ p. absurd (some_more a before p) })

  -- each part is accepted or refused
  decided : (before : List Act) (sound : AreSound (definitions before)) (part : Part) → Decided limit before sound part
  decided before sound part = by part.bad refl part.closed refl (ended_or_not part.lexemes)
    where
      read : (front : List Lexeme) (end : End) → part.bad ≡ None → part.closed ≡ true → part.lexemes ≡ ended front end → (found : Option Statement) → statement_at (begins_left (leaves before) front) end front ≡ found → Decided limit before sound part
      read front end e c w None f =
          none_decided before sound part e (λ s h. none-some s (sym f ∙ read_as (leaves before) front end s h.statement (sym w ∙ h.spelled)))
      read front end e c w (Some s) f =
          let r = statement_found (begins_left (leaves before) front) end front s f in
          placed_decided before sound part s (version_or_not s) e c (w ∙ ap (λ x. ended x end) r.spelled ∙ ap (ended (word (first_word s) ∷ written_rest s)) (sym r.ends))
          (record { formed = r.formed; tried = sym (ap (begins_left (leaves before)) r.spelled) ∙ r.tried })

      by : (bad : Option ℕ) → part.bad ≡ bad → (closed : Bool) → part.closed ≡ closed
          → ((front : List Lexeme) × (end : End) × (part.lexemes ≡ ended front end)) ⊎ ((front : List Lexeme) (end : End) → part.lexemes ≡ ended front end → ⊥) → Decided limit before sound part
      by (Some place) e closed c x = inr (BadByte place, bad_refuses limit before part place e)
      by None e false c x = none_decided before sound part e (λ s h. (let q : false ≡ true = sym c ∙ h.closed in cc))
      by None e true c (inr n) = none_decided before sound part e (λ s h. n (word (first_word s) ∷ written_rest s) (end_of s) h.spelled)
      by None e true c (inl w) = read w.0 w.1 e c w.2 (statement_at (begins_left (leaves before) w.0) w.1 w.0) refl

  -- after those that are accepted one is refused
  record Stops (before : List Act) (parts : List Part) : Type 0 where
    good : List Part
    bad : Part
    more : List Part
    acts : List Act
    why : Why
    split : parts ≡ good ++ (bad ∷ more)
    accepted : AllAccepted limit before good acts
    refuses : Refuses limit (before ++ acts) bad why

  stops_here : (before : List Act) (part : Part) (parts : List Part) (why : Why) → Refuses limit before part why → Stops before (part ∷ parts)
  stops_here before part parts why r = record {
    good = [];
    bad = part;
    more = parts;
    acts = [];
    why = why;
    split = refl;
    accepted = tt;
    refuses = subst (λ b. Refuses limit b part why) (sym (append-nil before)) r;
  }

  stops_later : (before : List Act) (part : Part) (parts : List Part) (act : Act) → Accepts limit before part act → Stops (before ++ act ∷ []) parts → Stops before (part ∷ parts)
  stops_later before part parts act a s = record {
    good = part ∷ s.good;
    bad = s.bad;
    more = s.more;
    acts = act ∷ s.acts;
    why = s.why;
    split = ap (λ r. part ∷ r) s.split;
    accepted = (a, s.accepted);
    refuses = subst (λ b. Refuses limit b s.bad s.why) (append_assoc before (act ∷ []) s.acts) s.refuses;
  }

  -- so all are accepted, or one is refused
  all_decided : (before : List Act) → AreSound (definitions before) → (parts : List Part) → ((acts : List Act) × AllAccepted limit before parts acts) ⊎ Stops before parts
  all_decided before sound [] = inl ([], tt)
  all_decided before sound (part ∷ parts) = elim (decided before sound part) [
    | inr r ↦ inr (stops_here before part parts r.0 r.1)
    | inl a ↦ elim (all_decided (before ++ a.0 ∷ []) (accepted_sound limit before part a.0 sound a.1) parts) [
      | inl r ↦ inl (a.0 ∷ r.0, (a.1, r.1))
      | inr s ↦ inr (stops_later before part parts a.0 a.1 s)
    ]
  ]

  stopped : (parts : List Part) (s : Stops [] parts) → IsRefused limit parts (length s.good + 1) s.why
  stopped parts s = record { good = s.good; bad = s.bad; more = s.more; acts = s.acts; split = s.split; accepted = s.accepted; refuses = s.refuses; count = refl }

  -- statements read
  every_parts : (parts : List Part) → (reading : Reading) × Reads limit parts reading
  every_parts [] = (refusal 0 NoVersion, refl)
  every_parts (part ∷ parts) = elim (all_decided [] tt (part ∷ parts)) [
    | inl r ↦ (circuit (circuit_of r.0), (r.0, r.1, refl))
    | inr s ↦ (refusal (length s.good + 1) s.why, stopped (part ∷ parts) s)
  ]

  -- and so does a text
  pub every_reading : (text : List ℕ) → (reading : Reading) × ReadsAs text limit reading
  every_reading text =
      let t = tokens_exist text in
      let r = every_parts (parts_of (lexemes_of text t.0) t.1) in
      (r.0, record { lexemes = lexemes_of text t.0; bad = t.1; are_lexemes = are_lexemes text t.0 t.1 t.2; reads = r.1 })
