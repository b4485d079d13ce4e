-- More worked examples of 01 and of 02's W8, as one table under one statement: faults in their order, and errors that look right.
use Rattle.std.specs.Prelude.{ℕ, ◌≡◌, List, [], ◌∷◌, ◌++◌, map, replicate}
use Prim.Native.String.{String}
use Rattle.rules.specs.Texts.{bytes}
use Rattle.rules.specs.Questions.{Question}
use Rattle.rules.specs.Bench.{Case, Said, Told, said, wire, lengths, plain, day, three_days, accepted, no_more, only, zone, soa_numbers, compiled, refused_with, compile, asking, changeover}

-- a source of one line that is refused, and its number and field
unfoldable pub refusals : List (String × ℕ × ℕ)
refusals =
    ("x", 3, 0)
    ∷ ("+a:1.2.3.4::::", 4, 0)
    ∷ ("+a..b:1.2.3.4", 5, 1)
    ∷ ("&a:1.2.3.4:.b", 5, 3)
    ∷ ("+a:01.2.3.4", 6, 2)
    ∷ ("+a:1_2_3_4_5_6_7", 6, 2)
    ∷ ("%in:1.2.3.4.5", 6, 2)
    ∷ ("+a:1.2.3.4:2147483648", 7, 3)
    ∷ ("Za:b:c:4294967296", 7, 4)
    ∷ ("+a:1.2.3.4:00000000001", 7, 3)
    ∷ ("+a:1.2.3.4::0000000000000000", 8, 4)
    ∷ ("+a:1.2.3.4::4000000038AF1379", 8, 4)
    ∷ ("+a:1.2.3.4::8000000000000000", 8, 4)
    ∷ ("+a:1.2.3.4:::x1", 9, 5)
    ∷ ("'a:\\400", 10, 2)
    ∷ (":a:0252:x", 11, 2)
    ∷ ("S", 12, 4)
    ∷ ("%", 12, 1)
    ∷ ("Ca", 12, 2)
    ∷ ("=a", 12, 2)
    ∷ []

unfoldable pub refusal_cases : List (String × ℕ × ℕ) → List Case
refusal_cases rs = map (λ r. compile (r.0 ∷ []) 9) rs

unfoldable pub refusals_expected : List (String × ℕ × ℕ) → List Said
refusals_expected rs = map (λ r. refused_with (r.1 ∷ 1 ∷ r.2 ∷ 0 ∷ []) 9) rs

-- the address 2001:db8::1
unfoldable pub documentation : List ℕ
documentation = 0x20 ∷ 0x01 ∷ 0x0d ∷ 0xb8 ∷ replicate 11 0 ++ (1 ∷ [])

unfoldable pub documentation_name : List ℕ
documentation_name = wire ("1" ∷ "0" ∷ "0" ∷ "0" ∷ "0" ∷ "0" ∷ "0" ∷ "0" ∷ "0" ∷ "0" ∷ "0" ∷ "0" ∷ "0" ∷ "0" ∷ "0" ∷ "0" ∷ "0" ∷ "0" ∷ "0" ∷ "0" ∷ "0" ∷ "0" ∷ "0" ∷ "0" ∷ "8" ∷ "b" ∷ "d" ∷ "0" ∷ "1" ∷ "0" ∷ "0" ∷ "2" ∷ "ip6" ∷ "arpa" ∷ [])

-- a question that can't be asked
unfoldable pub unasked : List ℕ → List ℕ → ℕ → Question
unasked name client moment = record { name = name; type = 255; client = client; moment = moment }

unfoldable pub refused_ask : ℕ → List Told
refused_ask number =
    let told : Told = record { numbers = number ∷ 0 ∷ 0 ∷ 0 ∷ 0 ∷ 0 ∷ []; rdata = [] } in
    told ∷ told ∷ []

unfoldable pub examples : List Case
examples =
    -- later lines are read before the room is tested
    compile ("+a:1.2.3.4" ∷ "!" ∷ []) 0
    -- leading zeros up to ten digits; a comment and a blank line between
    ∷ compile ("+a:1.2.3.4:0000086400" ∷ "# comment" ∷ "  " ∷ []) 30
    -- an IPv6 address, either case, and its reverse name
    ∷ compile ("=a:2001_dB8_0_0_0_0_0_1" ∷ []) 142
    -- the SOA of a line that ends at a time ends with it
    ∷ compile (".b::a.b:0:4000000038af1379" ∷ []) 96
    -- one label `*` is taken off; the record data keep it
    ∷ compile ("C*.*.B:*.D" ∷ []) 33
    -- an owner's records of another type hold the level; the three refusals of a question come in their order
    ∷ record {
      lines = ".b::a" ∷ "'x.b:hi" ∷ "+*.b:192.0.2.1" ∷ [];
      serial = 7;
      room = 163;
      questions =
          asking ("x" ∷ "b" ∷ []) (192 ∷ 0 ∷ 2 ∷ 9 ∷ []) 1
          ∷ unasked (1 ∷ 97 ∷ []) [] 0x8000000000000000
          ∷ unasked (0 ∷ []) [] 0x8000000000000000
          ∷ unasked (0 ∷ []) [] 1
          ∷ [];
    }
    -- W8: a wildcard NS and a wildcard above make no name ours; below a delegation and at it; below one that has ended, by the zone's wildcard;
    -- no level in a zone, though a wildcard stands above it; a zone's own name without that type
    ∷ record {
      lines = ".b::a" ∷ "+*:192.0.2.7" ∷ "&d.b::x.y:0:4000000038af1379" ∷ "+*.b:192.0.2.8" ∷ ".c::a" ∷ "&*.f::x.y" ∷ [];
      serial = 7;
      room = 326;
      questions =
          asking ("g" ∷ "f" ∷ []) (192 ∷ 0 ∷ 2 ∷ 9 ∷ []) 1
          ∷ asking ("x" ∷ "d" ∷ "b" ∷ []) (192 ∷ 0 ∷ 2 ∷ 9 ∷ []) 1
          ∷ asking ("d" ∷ "b" ∷ []) (192 ∷ 0 ∷ 2 ∷ 9 ∷ []) 1
          ∷ asking ("x" ∷ "d" ∷ "b" ∷ []) (192 ∷ 0 ∷ 2 ∷ 9 ∷ []) 0x4000000038af1379
          ∷ asking ("x" ∷ "c" ∷ []) (192 ∷ 0 ∷ 2 ∷ 9 ∷ []) 1
          ∷ asking ("b" ∷ []) (192 ∷ 0 ∷ 2 ∷ 9 ∷ []) 1
          ∷ [];
    }
    -- bytes that aren't whole records: no outcome
    ∷ record { lines = []; serial = 7; room = 1; questions = asking ("b" ∷ []) (192 ∷ 0 ∷ 2 ∷ 9 ∷ []) 1 ∷ [] }
    ∷ []

unfoldable pub examples_expected : List Said
examples_expected =
    refused_with (3 ∷ 2 ∷ 0 ∷ 0 ∷ []) 0
    ∷ compiled (lengths 3 19 ++ wire ("a" ∷ []) ++ plain 1 day ++ (1 ∷ 2 ∷ 3 ∷ 4 ∷ []))
    ∷ compiled
    (lengths 3 31 ++ wire ("a" ∷ []) ++ plain 28 day ++ documentation ++ lengths 74 18 ++ documentation_name ++ plain 12 day ++ wire ("a" ∷ []))
    ∷ compiled
    (lengths 3 54 ++ wire ("b" ∷ []) ++ (0 ∷ 6 ∷ 0x3d ∷ 0 ∷ 0 ∷ 0 ∷ 0 ∷ []) ++ changeover ++ wire ("a" ∷ "b" ∷ []) ++ wire ("hostmaster" ∷ "b" ∷ [])
    ++ soa_numbers
    ++ lengths 3 20 ++ wire ("b" ∷ []) ++ (0 ∷ 2 ∷ 0x3d ∷ 0 ∷ 0 ∷ 0 ∷ 0 ∷ []) ++ changeover ++ wire ("a" ∷ "b" ∷ []))
    ∷ compiled (lengths 5 20 ++ wire ("*" ∷ "b" ∷ []) ++ (0 ∷ 5 ∷ 0x2a ∷ []) ++ day ++ replicate 8 0 ++ wire ("*" ∷ "D" ∷ []))
    ∷ record {
      answer = accepted 163;
      output =
          zone ("b" ∷ []) ("a" ∷ "ns" ∷ "b" ∷ [])
          ++ lengths 5 18 ++ wire ("x" ∷ "b" ∷ []) ++ plain 16 day ++ (2 ∷ bytes "hi")
          ++ lengths 3 19 ++ wire ("b" ∷ []) ++ (0 ∷ 1 ∷ 0x2a ∷ []) ++ day ++ replicate 8 0 ++ (192 ∷ 0 ∷ 2 ∷ 1 ∷ []);
      told = (no_more 4 ∷ no_more 4 ∷ []) ∷ refused_ask 15 ∷ refused_ask 16 ∷ refused_ask 17 ∷ [];
    }
    ∷ record {
      answer = accepted 326;
      output =
          zone ("b" ∷ []) ("a" ∷ "ns" ∷ "b" ∷ [])
          ++ lengths 1 19 ++ (0 ∷ 0 ∷ 1 ∷ 0x2a ∷ []) ++ day ++ replicate 8 0 ++ (192 ∷ 0 ∷ 2 ∷ 7 ∷ [])
          ++ lengths 5 20 ++ wire ("d" ∷ "b" ∷ []) ++ (0 ∷ 2 ∷ 0x3d ∷ 0 ∷ 0 ∷ 0 ∷ 0 ∷ []) ++ changeover ++ wire ("x" ∷ "y" ∷ [])
          ++ lengths 3 19 ++ wire ("b" ∷ []) ++ (0 ∷ 1 ∷ 0x2a ∷ []) ++ day ++ replicate 8 0 ++ (192 ∷ 0 ∷ 2 ∷ 8 ∷ [])
          ++ zone ("c" ∷ []) ("a" ∷ "ns" ∷ "c" ∷ [])
          ++ lengths 3 20 ++ wire ("f" ∷ []) ++ (0 ∷ 2 ∷ 0x2a ∷ []) ++ three_days ++ replicate 8 0 ++ wire ("x" ∷ "y" ∷ []);
      told =
          (no_more 1 ∷ no_more 1 ∷ [])
          ∷ only 2 (0 ∷ 2 ∷ 3600 ∷ 158 ∷ 5 ∷ []) (wire ("x" ∷ "y" ∷ []))
          ∷ only 2 (0 ∷ 2 ∷ 3600 ∷ 158 ∷ 5 ∷ []) (wire ("x" ∷ "y" ∷ []))
          ∷ only 3 (0 ∷ 1 ∷ 86400 ∷ 189 ∷ 4 ∷ []) (192 ∷ 0 ∷ 2 ∷ 8 ∷ [])
          ∷ (no_more 5 ∷ no_more 5 ∷ [])
          ∷ (no_more 4 ∷ no_more 4 ∷ [])
          ∷ [];
    }
    ∷ record { answer = accepted 0; output = 170 ∷ []; told = refused_ask 14 ∷ [] }
    ∷ []

unfoldable pub ExamplesHold : Type 0
ExamplesHold = map said (refusal_cases refusals ++ examples) ≡ refusals_expected refusals ++ examples_expected
