-- 01, Bench examples: B1 to B12 as one table under one statement, `bench_holds`; B10, B11 and B12 with the `.` lines of 02's W8.
use Rattle.std.specs.Prelude.{ℕ, ◌+◌, ◌≡◌, List, [], ◌∷◌, ◌++◌, map, length, take, drop, replicate}
use Prim.Native.String.{String}
use Rattle.rules.specs.Texts.{bytes}
use Rattle.rules.specs.Answers.{numbers_of, compile_answer, compile_output}
use Rattle.rules.specs.Questions.{Question}
use Rattle.rules.specs.Reading.{response_numbers, reply_values, ask_response}

-- a case: a source of lines, the serial, the room lent, and questions
pub record Case : Type 0 where
  pub lines : List String
  pub serial : ℕ
  pub room : ℕ
  pub questions : List Question

-- what asking answers for one ordinal: its six numbers and the bytes at the place and length handed out
pub record Told : Type 0 where
  pub numbers : List ℕ
  pub rdata : List ℕ

-- what the rules say of a case: compiling's four numbers, the whole buffer afterwards, and for each question what is told at ordinals 0 and 1
pub record Said : Type 0 where
  pub answer : List ℕ
  pub output : List ℕ
  pub told : List (List Told)

unfoldable pub source_of : List String → List ℕ
source_of [] = []
source_of (line ∷ lines) = bytes line ++ (10 ∷ source_of lines)

unfoldable pub rdata_at : List ℕ → List ℕ → List ℕ
rdata_at compiled [] = []
rdata_at compiled (type ∷ []) = []
rdata_at compiled (type ∷ lifetime ∷ []) = []
rdata_at compiled (type ∷ lifetime ∷ place ∷ []) = []
rdata_at compiled (type ∷ lifetime ∷ place ∷ count ∷ rest) = take count (drop place compiled)

unfoldable pub tell : List ℕ → Question → ℕ → Told
tell compiled q ordinal =
    let response = ask_response compiled q ordinal in
    record { numbers = response_numbers response; rdata = rdata_at compiled (reply_values response.reply) }

-- the lent buffer holds the byte 170 everywhere
unfoldable pub said : Case → Said
said c =
    let source = source_of c.lines in
    let output = compile_output source c.serial (replicate c.room 170) in
    record {
      answer = numbers_of (compile_answer source c.serial c.room);
      output = output;
      told = map (λ q. tell output q 0 ∷ tell output q 1 ∷ []) c.questions;
    }

-- a name on the wire, by its labels
unfoldable pub wire : List String → List ℕ
wire [] = 0 ∷ []
wire (l ∷ ls) = length (bytes l) ∷ bytes l ++ wire ls

-- the 8 bytes of lengths; and the fixed fields of an ordinary record without lo and time
unfoldable pub lengths : ℕ → ℕ → List ℕ
lengths key rdata = key ∷ 0 ∷ 0 ∷ 0 ∷ rdata ∷ 0 ∷ 0 ∷ 0 ∷ []

unfoldable pub plain : ℕ → List ℕ → List ℕ
plain type ttl = 0 ∷ type ∷ 0x3d ∷ ttl ++ replicate 8 0

-- ttl 86400, 259200 and 2560
unfoldable pub day : List ℕ
day = 0 ∷ 1 ∷ 0x51 ∷ 0x80 ∷ []

unfoldable pub three_days : List ℕ
three_days = 0 ∷ 3 ∷ 0xf4 ∷ 0x80 ∷ []

unfoldable pub soa_ttl : List ℕ
soa_ttl = 0 ∷ 0 ∷ 0x0a ∷ 0 ∷ []

unfoldable pub accepted : ℕ → List ℕ
accepted count = 0 ∷ 0 ∷ 0 ∷ count ∷ []

-- 18 with an outcome
unfoldable pub no_more : ℕ → Told
no_more outcome = record { numbers = 18 ∷ 0 ∷ 0 ∷ 0 ∷ 0 ∷ outcome ∷ []; rdata = [] }

-- one record, and the outcome with it and behind it
unfoldable pub only : ℕ → List ℕ → List ℕ → List Told
only outcome numbers rdata = record { numbers = numbers ++ (outcome ∷ []); rdata = rdata } ∷ no_more outcome ∷ []

unfoldable pub compiled : List ℕ → Said
compiled output = record { answer = accepted (length output); output = output; told = [] }

unfoldable pub refused_with : List ℕ → ℕ → Said
refused_with numbers room = record { answer = numbers; output = replicate room 170; told = [] }

unfoldable pub compile : List String → ℕ → Case
compile lines room = record { lines = lines; serial = 7; room = room; questions = [] }

-- an A question
unfoldable pub asking : List String → List ℕ → ℕ → Question
asking name client moment = record { name = wire name; type = 1; client = client; moment = moment }

unfoldable pub table : List Case
table =
    compile [] 0
    ∷ compile ("+a.b:192.0.2.1" ∷ []) 32
    ∷ compile ("+a.b:192.0.2.1" ∷ []) 31
    ∷ compile ("=button.panic.mil:1.8.7.108" ∷ []) 110
    ∷ compile (".panic.mil::a.ns.heaven.af.mil" ∷ []) 150
    ∷ compile ("@heaven.af.mil:1.2.3.4" ∷ []) 103
    ∷ compile ("S_sip._udp.slocombe.example:203.0.113.88:a:5060:10:20" ∷ []) 152
    ∷ compile ("+a:1.2.3.256" ∷ []) 40
    ∷ compile ("+a:1.2.3.4" ∷ "!" ∷ "+b:1.2.3.4" ∷ "!" ∷ []) 90
    ∷ record {
      lines = ".w" ∷ "+w:192.0.2.234:0:4000000038af1379" ∷ "+w:192.0.2.235::4000000038af1379" ∷ [];
      serial = 7;
      room = 158;
      questions = asking ("w" ∷ []) (192 ∷ 0 ∷ 2 ∷ 9 ∷ []) 0x4000000038af1378 ∷ asking ("w" ∷ []) (192 ∷ 0 ∷ 2 ∷ 9 ∷ []) 0x4000000038af1379 ∷ [];
    }
    ∷ record {
      lines = ".a" ∷ "+a:192.0.2.1:::in" ∷ "+a:192.0.2.2:::ex" ∷ "%in:192.168" ∷ "%ex" ∷ [];
      serial = 7;
      room = 188;
      questions = asking ("a" ∷ []) (192 ∷ 168 ∷ 7 ∷ 7 ∷ []) 0x4000000038af1378 ∷ asking ("a" ∷ []) (192 ∷ 0 ∷ 2 ∷ 9 ∷ []) 0x4000000038af1378 ∷ [];
    }
    ∷ record {
      lines = ".u.heaven.af.mil" ∷ "+pink.floyd.u.heaven.af.mil:1.2.3.4" ∷ "+*.u.heaven.af.mil:1.2.3.200" ∷ [];
      serial = 7;
      room = 267;
      questions =
          asking ("sally" ∷ "floyd" ∷ "u" ∷ "heaven" ∷ "af" ∷ "mil" ∷ []) (192 ∷ 0 ∷ 2 ∷ 9 ∷ []) 0x4000000038af1378
          ∷ asking ("pink" ∷ "floyd" ∷ "u" ∷ "heaven" ∷ "af" ∷ "mil" ∷ []) (192 ∷ 0 ∷ 2 ∷ 9 ∷ []) 0x4000000038af1378
          ∷ [];
    }
    ∷ []

-- "`+a.b:192.0.2.1` is whole:"
unfoldable pub example : List ℕ
example =
    0x05 ∷ 0x00 ∷ 0x00 ∷ 0x00 ∷ 0x13 ∷ 0x00 ∷ 0x00 ∷ 0x00 ∷ 0x01 ∷ 0x61 ∷ 0x01 ∷ 0x62 ∷ 0x00 ∷ 0x00 ∷ 0x01 ∷ 0x3d
    ∷ 0x00 ∷ 0x01 ∷ 0x51 ∷ 0x80 ∷ 0x00 ∷ 0x00 ∷ 0x00 ∷ 0x00 ∷ 0x00 ∷ 0x00 ∷ 0x00 ∷ 0x00 ∷ 0xc0 ∷ 0x00 ∷ 0x02 ∷ 0x01 ∷ []

unfoldable pub button : List ℕ
button = wire ("button" ∷ "panic" ∷ "mil" ∷ [])

unfoldable pub panic : List ℕ
panic = wire ("panic" ∷ "mil" ∷ [])

unfoldable pub heaven : List ℕ
heaven = wire ("heaven" ∷ "af" ∷ "mil" ∷ [])

unfoldable pub mx_heaven : List ℕ
mx_heaven = wire ("mx" ∷ "heaven" ∷ "af" ∷ "mil" ∷ [])

unfoldable pub ns_heaven : List ℕ
ns_heaven = wire ("a" ∷ "ns" ∷ "heaven" ∷ "af" ∷ "mil" ∷ [])

unfoldable pub service : List ℕ
service = wire ("_sip" ∷ "_udp" ∷ "slocombe" ∷ "example" ∷ [])

unfoldable pub service_host : List ℕ
service_host = wire ("a" ∷ "srv" ∷ "_sip" ∷ "_udp" ∷ "slocombe" ∷ "example" ∷ [])

-- the five numbers of an SOA with serial 7 and the defaults
unfoldable pub soa_numbers : List ℕ
soa_numbers = 0 ∷ 0 ∷ 0 ∷ 7 ∷ 0 ∷ 0 ∷ 0x40 ∷ 0 ∷ 0 ∷ 0 ∷ 8 ∷ 0 ∷ 0 ∷ 0x10 ∷ 0 ∷ 0 ∷ 0 ∷ 0 ∷ 0x0a ∷ 0 ∷ []

-- the SOA and the NS of a `.` line without an address, by the labels of its owner and of its host
unfoldable pub zone : List String → List String → List ℕ
zone owner host =
    let key = wire owner in
    let soa = wire host ++ wire ("hostmaster" ∷ owner) ++ soa_numbers in
    lengths (length key) (15 + length soa) ++ key ++ plain 6 soa_ttl ++ soa
    ++ (lengths (length key) (15 + length (wire host)) ++ key ++ plain 2 three_days ++ wire host)

-- the changeover second as 8 bytes
unfoldable pub changeover : List ℕ
changeover = 0x40 ∷ 0 ∷ 0 ∷ 0 ∷ 0x38 ∷ 0xaf ∷ 0x13 ∷ 0x79 ∷ []

unfoldable pub expected : List Said
expected =
    compiled []
    ∷ compiled example
    ∷ refused_with (13 ∷ 0 ∷ 0 ∷ 32 ∷ []) 31
    ∷ compiled
    (lengths 18 19 ++ button ++ plain 1 day ++ (1 ∷ 8 ∷ 7 ∷ 108 ∷ [])
    ++ lengths 24 33 ++ wire ("108" ∷ "7" ∷ "8" ∷ "1" ∷ "in-addr" ∷ "arpa" ∷ []) ++ plain 12 day ++ button)
    ∷ compiled
    (lengths 11 77 ++ panic ++ plain 6 soa_ttl ++ ns_heaven ++ wire ("hostmaster" ∷ "panic" ∷ "mil" ∷ []) ++ soa_numbers
    ++ lengths 11 35 ++ panic ++ plain 2 three_days ++ ns_heaven)
    ∷ compiled
    (lengths 15 35 ++ heaven ++ plain 15 day ++ (0 ∷ 0 ∷ []) ++ mx_heaven
    ++ lengths 18 19 ++ mx_heaven ++ plain 1 day ++ (1 ∷ 2 ∷ 3 ∷ 4 ∷ []))
    ∷ compiled
    (lengths 28 55 ++ service ++ plain 33 day ++ (0x00 ∷ 0x0a ∷ 0x00 ∷ 0x14 ∷ 0x13 ∷ 0xc4 ∷ []) ++ service_host
    ++ lengths 34 19 ++ service_host ++ plain 1 day ++ (203 ∷ 0 ∷ 113 ∷ 88 ∷ []))
    ∷ refused_with (6 ∷ 1 ∷ 2 ∷ 0 ∷ []) 40
    ∷ refused_with (3 ∷ 2 ∷ 0 ∷ 0 ∷ []) 90
    ∷ record {
      answer = accepted 158;
      output =
          zone ("w" ∷ []) ("ns" ∷ "w" ∷ [])
          ++ lengths 3 19 ++ wire ("w" ∷ []) ++ (0 ∷ 1 ∷ 0x3d ∷ 0 ∷ 0 ∷ 0 ∷ 0 ∷ []) ++ changeover ++ (192 ∷ 0 ∷ 2 ∷ 234 ∷ [])
          ++ lengths 3 19 ++ wire ("w" ∷ []) ++ (0 ∷ 1 ∷ 0x3d ∷ []) ++ day ++ changeover ++ (192 ∷ 0 ∷ 2 ∷ 235 ∷ []);
      told = only 3 (0 ∷ 1 ∷ 2 ∷ 124 ∷ 4 ∷ []) (192 ∷ 0 ∷ 2 ∷ 234 ∷ []) ∷ only 3 (0 ∷ 1 ∷ 86400 ∷ 154 ∷ 4 ∷ []) (192 ∷ 0 ∷ 2 ∷ 235 ∷ []) ∷ [];
    }
    ∷ record {
      answer = accepted 188;
      output =
          zone ("a" ∷ []) ("ns" ∷ "a" ∷ [])
          ++ lengths 3 21 ++ wire ("a" ∷ []) ++ (0 ∷ 1 ∷ 0x3e ∷ bytes "in") ++ day ++ replicate 8 0 ++ (192 ∷ 0 ∷ 2 ∷ 1 ∷ [])
          ++ lengths 3 21 ++ wire ("a" ∷ []) ++ (0 ∷ 1 ∷ 0x3e ∷ bytes "ex") ++ day ++ replicate 8 0 ++ (192 ∷ 0 ∷ 2 ∷ 2 ∷ [])
          ++ lengths 4 2 ++ (0 ∷ 0x25 ∷ 192 ∷ 168 ∷ []) ++ bytes "in" ++ lengths 2 2 ++ (0 ∷ 0x25 ∷ []) ++ bytes "ex";
      told = only 3 (0 ∷ 1 ∷ 86400 ∷ 126 ∷ 4 ∷ []) (192 ∷ 0 ∷ 2 ∷ 1 ∷ []) ∷ only 3 (0 ∷ 1 ∷ 86400 ∷ 158 ∷ 4 ∷ []) (192 ∷ 0 ∷ 2 ∷ 2 ∷ []) ∷ [];
    }
    ∷ record {
      answer = accepted 267;
      output =
          zone ("u" ∷ "heaven" ∷ "af" ∷ "mil" ∷ []) ("ns" ∷ "u" ∷ "heaven" ∷ "af" ∷ "mil" ∷ [])
          ++ lengths 28 19 ++ wire ("pink" ∷ "floyd" ∷ "u" ∷ "heaven" ∷ "af" ∷ "mil" ∷ []) ++ plain 1 day ++ (1 ∷ 2 ∷ 3 ∷ 4 ∷ [])
          ++ lengths 17 19 ++ wire ("u" ∷ "heaven" ∷ "af" ∷ "mil" ∷ []) ++ (0 ∷ 1 ∷ 0x2a ∷ []) ++ day ++ replicate 8 0 ++ (1 ∷ 2 ∷ 3 ∷ 200 ∷ []);
      told = only 3 (0 ∷ 1 ∷ 86400 ∷ 263 ∷ 4 ∷ []) (1 ∷ 2 ∷ 3 ∷ 200 ∷ []) ∷ only 3 (0 ∷ 1 ∷ 86400 ∷ 219 ∷ 4 ∷ []) (1 ∷ 2 ∷ 3 ∷ 4 ∷ []) ∷ [];
    }
    ∷ []

-- "to be proved of the rules as a single table under a single statement"
unfoldable pub BenchHolds : Type 0
BenchHolds = map said table ≡ expected
